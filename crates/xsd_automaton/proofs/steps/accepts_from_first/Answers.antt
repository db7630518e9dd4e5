use Rattle.std.proofs.Common.{◌≡◌, ◌∙◌, sym, subst, map-id}
use Rattle.std.proofs.lemmas.Iterator.{YieldsList-from_chars}
use Rattle.std.proofs.lemmas.Iterator.Consumers.{YieldsList-end}
use Rattle.std.specs.Str.{chars}
use Rattle.xsd_automaton.specs.plain.Closures.{LeadsTo}
use Rattle.xsd_positions.specs.views.Positions.{positions_of}
use Rattle.xsd_automaton.proofs.ReadTexts.{leads_on, judged}
use Rattle.xsd_automaton.proofs.steps.accepts_from_first.Goals as goal

pub loop-c-preserved : goal.loop-c-preserved
loop-c-preserved c = record {
  closed = c.step.ensures.closed;
  leads = leads_on (positions_of c.args.positions.now) c.args.positions.now.first c.in-Some.c c.loop-c.yielded c.loop-c.reached c.step.new.reached
      c.loop-c.invariant.leads c.step.ensures.steps;
}

pub returns : goal.returns
returns c r of =
    let ps = positions_of c.args.positions.now in
    let first = c.args.positions.now.first in
    let chars_of = YieldsList-from_chars c.args.text.now c.utf8.text cc in
    let t = YieldsList-end chars_of c.loop-c.yielded _ c.loop-c.yielded_by _ _ c.in-None.is c.next.ensures.steps in
    let read : c.loop-c.yielded ≡ chars c.args.text.now = sym (map-id c.loop-c.yielded) ∙ t.0 in
    let leads : LeadsTo ps first (chars c.args.text.now) c.loop-c.reached =
    subst (λ s. LeadsTo ps first s c.loop-c.reached) read c.loop-c.invariant.leads in
    let j = judged ps r first (chars c.args.text.now) c.loop-c.reached of c.loop-c.invariant.closed leads in
    (λ e. j.0 (sym c.is_at_end.ensures ∙ e), λ m. c.is_at_end.ensures ∙ j.1 m)

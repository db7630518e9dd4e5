use Rattle.std.proofs.Common.{◌≡◌, ◌∙◌, ◌++◌, [], ◌∷◌, sym, subst, map-id}
use Rattle.std.proofs.lemmas.Iterator.{YieldsList-from_chars}
use Rattle.std.proofs.lemmas.Iterator.Consumers.{YieldsList-end}
use Rattle.std.proofs.lemmas.List.{append_assoc}
use Rattle.std.specs.Str.{chars}
use Rattle.xsd_automaton.specs.plain.Closures.{LeadsTo}
use Rattle.xsd_positions.specs.views.Positions.{positions_of}
use Rattle.xsd_automaton.proofs.ReadTexts.{leads_on}
use Rattle.xsd_automaton.proofs.treated.step_over.Goals as goal

pub loop-c-preserved : goal.loop-c-preserved
loop-c-preserved c = record {
  closed = c.step.ensures.closed;
  leads = λ read h.
      subst (λ s. LeadsTo (positions_of c.args.positions.now) c.args.positions.now.first s c.step.new.reached)
      (append_assoc read c.loop-c.yielded (c.in-Some.c ∷ []))
      (leads_on (positions_of c.args.positions.now) c.args.positions.now.first c.in-Some.c (read ++ c.loop-c.yielded) c.loop-c.reached c.step.new.reached
      (c.loop-c.invariant.leads read h) c.step.ensures.steps);
}

pub returns-clause-leads : goal.returns-clause-leads
returns-clause-leads c read h =
    let t = YieldsList-end (YieldsList-from_chars c.args.text.now c.utf8.text cc) c.loop-c.yielded _ c.loop-c.yielded_by _ _ c.in-None.is c.next.ensures.steps in
    let spelled : c.loop-c.yielded ≡ chars c.args.text.now = sym (map-id c.loop-c.yielded) ∙ t.0 in
    subst (λ s. LeadsTo (positions_of c.args.positions.now) c.args.positions.now.first (read ++ s) c.loop-c.reached) spelled
    (c.loop-c.invariant.leads read h)

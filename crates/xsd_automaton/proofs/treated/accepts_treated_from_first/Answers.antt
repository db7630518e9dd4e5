use Rattle.std.proofs.Common.{◌∙◌, sym}
use Rattle.std.specs.Str.{chars}
use Rattle.xsd_automaton.specs.plain.Closures.{LeadsTo}
use Rattle.xsd_automaton.specs.views.WhiteSpace.{left_by, treated}
use Rattle.xsd_positions.specs.views.Positions.{positions_of}
use Rattle.xsd_automaton.proofs.ReadTexts.{judged}
use Rattle.xsd_automaton.proofs.TreatedRuns.{goes_on, ends}
use Rattle.xsd_automaton.proofs.treated.accepts_treated_from_first.Goals as goal

pub next_part-requires-text-rest : goal.next_part-requires-text-rest
next_part-requires-text-rest c κs = c.parts.invariant.utf8

pub parts-preserved : goal.parts-preserved
parts-preserved c = record {
  utf8 = c.in-Some.ensures.3;
  closed = c.step_over.ensures.closed;
  leads = goes_on (λ read. LeadsTo (positions_of c.args.positions.now) c.args.positions.now.first read c.parts.reached)
      (λ read. LeadsTo (positions_of c.args.positions.now) c.args.positions.now.first read c.step_over.new.reached)
      (chars (treated c.args.white_space c.args.text.now)) (left_by c.args.white_space c.parts.rest.now) c.in-Some.part.now
      (left_by c.args.white_space c.in-Some.after.now) c.in-Some.ensures.2 c.in-Some.ensures.0 c.step_over.ensures.leads
      c.parts.invariant.leads;
}

pub returns : goal.returns
returns c r of =
    let ps = positions_of c.args.positions.now in
    let first = c.args.positions.now.first in
    let leads = ends (λ read. LeadsTo ps first read c.parts.reached) (chars (treated c.args.white_space c.args.text.now))
    (left_by c.args.white_space c.parts.rest.now) c.in_default.ensures c.parts.invariant.leads in
    let j = judged ps r first (chars (treated c.args.white_space c.args.text.now)) c.parts.reached of c.parts.invariant.closed leads in
    (λ e. j.0 (sym c.is_at_end.ensures ∙ e), λ m. c.is_at_end.ensures ∙ j.1 m)

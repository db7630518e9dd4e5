use Rattle.xsd_automaton.specs.plain.Closures.{IsClosed, LeadsTo}
use Rattle.xsd_positions.specs.views.Positions.{positions_of}
use Rattle.xsd_automaton.proofs.steps.accepts_from_first.Given as goal

abbrev pub invariant-loop-c : goal.invariant-loop-c
invariant-loop-c l = record {
  closed : IsClosed (positions_of l.fn.positions) l.reached;
  leads : LeadsTo (positions_of l.fn.positions) l.fn.positions.first l.yielded l.reached;
}

use Rattle.std.proofs.Common.{ℕ, List, ◌++◌}
use Rattle.xsd_automaton.specs.plain.Closures.{IsClosed, LeadsTo}
use Rattle.xsd_positions.specs.views.Positions.{positions_of}
use Rattle.xsd_automaton.proofs.treated.step_over.Given as goal

abbrev pub invariant-loop-c : goal.invariant-loop-c
invariant-loop-c l = record {
  closed : IsClosed (positions_of l.fn.positions) l.reached;
  leads : (read : List ℕ) → LeadsTo (positions_of l.fn.positions) l.fn.positions.first read l.fn.reached
      → LeadsTo (positions_of l.fn.positions) l.fn.positions.first (read ++ l.yielded) l.reached;
}

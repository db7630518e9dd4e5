use Rattle.std.proofs.Common.{◌-◌}
use Rattle.xsd_positions.specs.views.Positions.{positions_of}
use Rattle.xsd_automaton.proofs.WorkList.{IsClosing}
use Rattle.xsd_automaton.proofs.closing.close.Given as goal

abbrev pub invariant-loop-number : goal.invariant-loop-number
invariant-loop-number l = IsClosing (positions_of l.fn.positions) l.fn.reached l.reached l.place

abbrev pub decreases-loop-number : goal.decreases-loop-number
decreases-loop-number l = 12289 - l.place

use Rattle.std.proofs.Common.{◌≡◌, ◌≤◌, take, length}
use Rattle.xsd_automaton.specs.plain.Closures.{nexts}
use Rattle.xsd_positions.specs.views.Positions.{positions_of}
use Rattle.xsd_automaton.proofs.steps.find_nexts.Given as goal

abbrev pub invariant-loop-number : goal.invariant-loop-number
invariant-loop-number l = record {
  found : l.found.items ≡ nexts (positions_of l.fn.positions) l.fn.c (take l.number-index l.numbers);
  few : length l.found.items ≤ l.number-index;
}

use Rattle.std.proofs.Common.{◌≡◌, take}
use Rattle.xsd_automaton.specs.plain.Closures.{with_all}
use Rattle.xsd_automaton.proofs.steps.add_all.Given as goal

abbrev pub invariant-loop-number : goal.invariant-loop-number
invariant-loop-number l = l.reached ≡ with_all l.fn.reached (take l.number-index l.numbers)

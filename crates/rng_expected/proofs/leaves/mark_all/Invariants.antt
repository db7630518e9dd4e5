use Rattle.std.proofs.Common.{map, take}
use Rattle.rng_expected.specs.plain.Leaves.{AddsMarks}
use Rattle.rng_expected.proofs.leaves.mark_all.Given as goal

abbrev pub invariant-loop-number : goal.invariant-loop-number
invariant-loop-number l = AddsMarks l.fn.marks.items l.marks.items (map (λ n. n.0) (take l.number-index l.numbers))

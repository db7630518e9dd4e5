use Rattle.std.proofs.Common.{map, take}
use Rattle.rng_deriv_table.specs.plain.Selecting.{Marks}
use Rattle.rng_deriv_table.proofs.selecting.mark_all.Given as goal

abbrev pub invariant-loop-number : goal.invariant-loop-number
invariant-loop-number l = Marks l.fn.marks.items l.marks.items (map (λ n. n.0) (take l.number-index l.numbers))

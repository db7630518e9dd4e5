use Rattle.std.proofs.Common.{◌≡◌, map, take}
use Rattle.rng_deriv_table.specs.plain.Selecting.{given_for}
use Rattle.rng_deriv_table.proofs.selecting.all_given.Given as goal

abbrev pub invariant-loop-number : goal.invariant-loop-number
invariant-loop-number l = map (λ n. n.0) l.all.items ≡ map (given_for l.given) (map (λ n. n.0) (take l.number-index l.numbers))

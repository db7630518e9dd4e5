use Rattle.std.proofs.Common.{◌≡◌, length}
use Rattle.rng_deriv_ways.proofs.takers.Takers.none.Given as goal

abbrev pub invariant-keys : goal.invariant-keys
invariant-keys l = length l.by_key.items ≡ l.counter

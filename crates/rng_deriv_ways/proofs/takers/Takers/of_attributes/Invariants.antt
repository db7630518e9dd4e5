use Rattle.std.proofs.Common.{◌≡◌, length}
use Rattle.rng_deriv_ways.proofs.AttributeTakers.{AreToldBefore}
use Rattle.rng_deriv_ways.proofs.takers.Takers.of_attributes.Given as goal

abbrev pub invariant-patterns : goal.invariant-patterns
invariant-patterns l = record {
  count : length l.takers.by_key.items ≡ length l.keys.names;
  told : AreToldBefore l.grammar l.keys l.takers l.position;
}

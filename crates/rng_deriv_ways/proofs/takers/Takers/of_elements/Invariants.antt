use Rattle.std.proofs.Common.{◌≡◌, length}
use Rattle.rng_deriv_ways.proofs.ElementTakers.{AreToldBelow}
use Rattle.rng_deriv_ways.proofs.takers.Takers.of_elements.Given as goal

abbrev pub invariant-elements : goal.invariant-elements
invariant-elements l = record {
  count : length l.takers.by_key.items ≡ length l.keys.names;
  told : AreToldBelow l.grammar l.keys l.takers l.number;
}

use Rattle.std.proofs.Common.{◌≡◌, length}
use Rattle.rng_model.specs.xsd.primitives.Decimals.{significant}
use Rattle.xsd_decimals.proofs.digits.significant.Given as goal

abbrev pub invariant-zeros : goal.invariant-zeros
invariant-zeros l = significant l.rest ≡ significant l.digits

abbrev pub decreases-zeros : goal.decreases-zeros
decreases-zeros l = length l.rest

use Rattle.std.proofs.Common.{◌≡◌, length}
use Rattle.xsd_decimals.specs.plain.Numbers.{past_zeros}
use Rattle.xsd_decimals.proofs.digits.past_zeros.Given as goal

abbrev pub invariant-zeros : goal.invariant-zeros
invariant-zeros l = past_zeros l.rest ≡ past_zeros l.digits

abbrev pub decreases-zeros : goal.decreases-zeros
decreases-zeros l = length l.rest

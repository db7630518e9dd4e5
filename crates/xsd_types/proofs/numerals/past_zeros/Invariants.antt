use Rattle.std.proofs.Common.{◌≡◌, length}
use Rattle.xsd_types.specs.plain.Digits.{past_zeros}
use Rattle.xsd_types.proofs.numerals.past_zeros.Given as goal

abbrev pub invariant-zeros : goal.invariant-zeros
invariant-zeros l = past_zeros l.rest ≡ past_zeros l.digits

abbrev pub decreases-zeros : goal.decreases-zeros
decreases-zeros l = length l.rest

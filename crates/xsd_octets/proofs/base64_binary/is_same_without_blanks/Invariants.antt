use Rattle.std.proofs.Common.{◌≡◌, length}
use Rattle.std.specs.Str.{bytes_eq}
use Rattle.rng_model.specs.xsd.primitives.Octets.{without_blanks}
use Rattle.xsd_octets.proofs.base64_binary.is_same_without_blanks.Given as goal

abbrev pub invariant-characters : goal.invariant-characters
invariant-characters l = bytes_eq (without_blanks l.left) (without_blanks l.right) ≡ bytes_eq (without_blanks l.a) (without_blanks l.b)

abbrev pub decreases-characters : goal.decreases-characters
decreases-characters l = length l.left

use Rattle.std.proofs.Common.{◌≡◌, length}
use Rattle.std.specs.Str.{bytes_eq}
use Rattle.rng_model.specs.xsd.Names.{replaced}
use Rattle.xsd_types.proofs.normalized.is_same_replaced.Given as goal

abbrev pub invariant-bytes : goal.invariant-bytes
invariant-bytes l = bytes_eq (replaced l.left) (replaced l.right) ≡ bytes_eq (replaced l.a) (replaced l.b)

abbrev pub decreases-bytes : goal.decreases-bytes
decreases-bytes l = length l.left

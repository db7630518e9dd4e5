use Rattle.std.proofs.Common.{◌≡◌, rules}
use Rattle.std.specs.Float.{binary64}
use Rattle.xsd_types.proofs.floats.FloatBoundBound.is_less.Goals as goal

pub returns : goal.returns
returns c = let is : _ ≡ _ = c.is_less.ensures binary64 in search rules

use Rattle.std.proofs.Common.{length}
use Rattle.rng_plain_matcher.proofs.derivatives.+after_attributes.Given as goal

abbrev pub decreases-after_attributes : goal.decreases-after_attributes
decreases-after_attributes l = length l.attrs.now

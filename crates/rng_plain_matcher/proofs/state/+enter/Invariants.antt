use Rattle.std.proofs.Common.{length}
use Rattle.rng_plain_matcher.proofs.state.+enter.Given as goal

abbrev pub decreases-enter : goal.decreases-enter
decreases-enter l = length l.ways.now

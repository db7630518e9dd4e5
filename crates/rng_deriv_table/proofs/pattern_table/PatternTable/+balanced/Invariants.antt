use Rattle.std.proofs.Common.{◌+◌}
use Rattle.rng_deriv_table.proofs.pattern_table.PatternTable.+balanced.Given as goal

abbrev pub decreases-balanced : goal.decreases-balanced
decreases-balanced l = l.first.0 + l.second.0

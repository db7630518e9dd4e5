use Rattle.std.proofs.Common.{◌+◌, ◌*◌}
use Rattle.rng_plain_matcher.proofs.grammar_trees.+trees.Given as goal

abbrev pub decreases-tree_at : goal.decreases-tree_at
decreases-tree_at l = 2 * l.position.0

abbrev pub decreases-boxed : goal.decreases-boxed
decreases-boxed l = 2 * l.position.0 + 1

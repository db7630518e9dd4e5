use Rattle.std.proofs.Common.{◌∙◌, sym}
use Rattle.rng_plain_matcher.proofs.GrammarRows.{tree_past}
use Rattle.rng_plain_matcher.proofs.WayLists.{none_left}
use Rattle.rng_plain_matcher.proofs.grammar_trees.+trees.Goals as goal

pub tree_at-returns-in_default : goal.tree_at-returns-in_default
tree_at-returns-in_default t c = none_left ∙ tree_past c.args.context.now.grammar.now.patterns c.args.position (sym c.in_default.ensures.value)

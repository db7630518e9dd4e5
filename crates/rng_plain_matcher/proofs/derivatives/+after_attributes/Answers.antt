use Rattle.std.proofs.Common.{◌-◌, length, take, drop}
use Rattle.rng_model.proofs.Places.{first_and_rest}
use Rattle.rng_model.specs.matching.GrammarMatching.{reading_of}
use Rattle.rng_plain_matcher.specs.views.Trees.{tree_of}
use Rattle.rng_plain_matcher.proofs.FirstItems.{one_attribute}
use Rattle.rng_plain_matcher.proofs.derivatives.+after_attributes.Goals as goal

pub returns : goal.returns
returns t c =
    one_attribute (reading_of c.args.context.now.grammar.now) c.args.attrs.now (take (length c.args.attrs.now - 1) (drop 1 c.args.attrs.now))
    c.attr-item.result (tree_of c.args.tree.now) (tree_of c.in_ok-next.next) (tree_of c.in_ok-left.left)
    (first_and_rest c.args.attrs.now c.attr-item.result c.in-len1-up.len_at_least c.attr-item.is) c.in_ok-next.ensures c.in_ok-left.ensures

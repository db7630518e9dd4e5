use Rattle.std.proofs.Common.{◌≡◌, ◌∙◌, ap, cond, map, rules, sym}
use Rattle.rng_model.specs.documents.EventViews.{attribute_of}
use Rattle.rng_model.specs.names.NameViews.{class_of}
use Rattle.rng_model.specs.matching.GrammarMatching.{reading_of}
use Rattle.rng_model.specs.simple.Tree.{s_not_allowed}
use Rattle.rng_deriv_laws.specs.plain.Derivatives.{choice_of}
use Rattle.rng_plain_matcher.specs.plain.First.{takes_first}
use Rattle.rng_plain_matcher.specs.views.Trees.{tree_of}
use Rattle.rng_plain_matcher.specs.views.Ways.{way_of}
use Rattle.rng_plain_matcher.specs.declared.tree.Tree.{the_lemmas}
use Rattle.rng_plain_matcher.proofs.FirstItems.{attribute_taken}
use Rattle.rng_plain_matcher.proofs.WayLists.{none_left, rests_more, rests_with, rests_with_none}
use Rattle.rng_plain_matcher.proofs.derivatives.+derivatives.Goals as goal

pub rests-ways-init : goal.rests-ways-init
rests-ways-init t c =
    let takes = takes_first (reading_of c.args.context.now.grammar.now) c.args.first in
    ap (rests_with takes (map way_of c.args.ways.items)) none_left ∙ rests_with_none takes (map way_of c.args.ways.items)

pub rests-ways-preserved : goal.rests-ways-preserved
rests-ways-preserved t c =
    let takes = takes_first (reading_of c.args.context.now.grammar.now) c.args.first in
    let is : tree_of c.in_ok-left.left ≡ choice_of (cond (takes (tree_of c.in-Some.way.leaf.now)) (tree_of c.in-Some.way.rest) s_not_allowed) (tree_of c.ways.left) =
    search rules in
    rests_more takes c.ways.ways.items c.pop.new.self.items c.in-Some.way (tree_of c.ways.left) (tree_of c.in_ok-left.left) _ c.in-Some.ensures.items is
    c.ways.invariant

pub takes_attribute-returns-in_ok-has-in-Attribute : goal.takes_attribute-returns-in_ok-has-in-Attribute
takes_attribute-returns-in_ok-has-in-Attribute t c =
    attribute_taken (reading_of c.args.context.now.grammar.now) (attribute_of c.args.attr.now) (class_of c.in-Attribute.class.now) (tree_of c.args.leaf.now)
    (tree_of c.in-Attribute.body.value) (tree_of c.deref.result.now) c.as_str.result.now c.in_ok-has-in-Attribute.has (search (rules, the_lemmas))
    (search rules) (search rules) (sym c.has_name.ensures ∙ c.if-not-has_name.false) c.in_ok-has-in-Attribute.ensures

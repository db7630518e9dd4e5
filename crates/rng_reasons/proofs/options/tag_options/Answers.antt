use Rattle.std.proofs.Common.{◌<◌, List, All, map, subst, sym, Option, Some, None}
use Rattle.rng_model.specs.documents.EventViews.{attribute_of}
use Rattle.rng_model.specs.matching.GrammarMatching.{reading_of}
use Rattle.rng_model.specs.names.NameViews.{name_of}
use Rattle.rng_deriv_laws.specs.plain.Restricted.{IsRestricted}
use Rattle.rng_deriv_table.specs.views.Choices.{SomeTakes}
use Rattle.rng_deriv_table.specs.views.Trees.{tree_of, trees}
use Rattle.rng_deriv_table.specs.declared.pattern.PatternNumber.{PatternNumber}
use Rattle.rng_deriv_table.proofs.Trees.{length-trees}
use Rattle.rng_deriv_ways.proofs.StartBodies.{ready_longer}
use Rattle.rng_reasons.specs.TagOptions.{IsRest}
use Rattle.rng_reasons.specs.views.Options.{options_of}
use Rattle.rng_reasons.proofs.FoundOptions.{no_options, some_options}
use Rattle.rng_reasons.proofs.options.tag_options.Goals as goal

pub rest_after-requires-clause-restricted : goal.rest_after-requires-clause-restricted
rest_after-requires-clause-restricted c =
    subst (All (λ (b : PatternNumber). IsRestricted (tree_of c.args.context.now.grammar.now c.args.table.now b.0))) (sym c.as_slice.ensures.value)
    (c.in_ok-bodies.ensures.restricted c.requires.restricted)

pub options_by-requires-clause-inside : goal.options_by-requires-clause-inside
options_by-requires-clause-inside c =
    let t = c.args.context.now.grammar.now in
    let new = c.rest_after.new.table in
    let Rest : Option PatternNumber → Type 0 = IsRest (reading_of t) (trees t new)
    (SomeTakes (reading_of t) (tree_of t c.args.table.now) c.as_slice.result.now) (map attribute_of c.args.tag.now.attrs.now) in
    let left = subst Rest c.in-Some.is c.in_ok-rest.ensures.rest in
    subst (λ l. c.in-Some.left.0 < l) (length-trees t new) left.inside

pub options_by-requires-clause-ready : goal.options_by-requires-clause-ready
options_by-requires-clause-ready c =
    ready_longer c.args.context.now.grammar.now c.args.table.now c.rest_after.new.table c.args.context.now.numbers.now c.in_ok-rest.ensures.longer
    c.requires.ready

pub returns-in_default-clause-options : goal.returns-in_default-clause-options
returns-in_default-clause-options c =
    let t = c.args.context.now.grammar.now in
    let g = reading_of t in
    let old = tree_of t c.args.table.now in
    let new = trees t c.rest_after.new.table in
    let xs = map attribute_of c.args.tag.now.attrs.now in
    let Rest : List PatternNumber → Type 0 = λ ms. IsRest g new (SomeTakes g old ms) xs None in
    no_options g new old _ (name_of c.args.tag.now.name.now) xs (name_of c.args.tag.now.named.now) c.in_ok-bodies.bodies.items c.in_ok-bodies.ensures.bodies
    (subst Rest c.as_slice.ensures.value (subst (IsRest g new (SomeTakes g old c.as_slice.result.now) xs) c.in_default.is c.in_ok-rest.ensures.rest))

pub returns-clause-options : goal.returns-clause-options
returns-clause-options c =
    let t = c.args.context.now.grammar.now in
    let g = reading_of t in
    let old = tree_of t c.args.table.now in
    let new = trees t c.rest_after.new.table in
    let xs = map attribute_of c.args.tag.now.attrs.now in
    let n = c.in-Some.left in
    let Rest : List PatternNumber → Type 0 = λ ms. IsRest g new (SomeTakes g old ms) xs (Some n) in
    some_options g new old _ (name_of c.args.tag.now.name.now) xs (name_of c.args.tag.now.named.now) c.in_ok-bodies.bodies.items c.in_ok-bodies.ensures.bodies n
    (subst Rest c.as_slice.ensures.value (subst (IsRest g new (SomeTakes g old c.as_slice.result.now) xs) c.in-Some.is c.in_ok-rest.ensures.rest))
    (options_of c.in_ok-options.options) c.in_ok-options.ensures

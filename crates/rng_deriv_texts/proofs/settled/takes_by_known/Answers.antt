use Rattle.std.proofs.Common.{sym, subst}
use Rattle.rng_model.specs.matching.GrammarMatching.{reading_of}
use Rattle.rng_deriv_table.specs.views.Trees.{tree_of}
use Rattle.rng_deriv_ways.proofs.PatternNodes.{is_over}
use Rattle.rng_deriv_texts.specs.plain.After.{TellsTaken}
use Rattle.rng_deriv_texts.specs.declared.first.First.TheVariants as firsts
use Rattle.rng_deriv_texts.proofs.SettledRests.{if_some}
use Rattle.rng_deriv_texts.proofs.settled.takes_by_known.Goals as goal

pub returns-in-Text : goal.returns-in-Text
returns-in-Text c =
    let t0 = c.args.context.now.grammar.now in
    let l = tree_of t0 c.args.table.now c.args.leaf.0 in
    if_some c.text_leaf_takes.result _ _ (λ b h. subst (λ first. TellsTaken (reading_of t0) first l b) (sym c.in-Text.is) (h c.in-Text.field-0))
    c.text_leaf_takes.ensures

pub returns-in-Attribute-pattern : goal.returns-in-Attribute-pattern
returns-in-Attribute-pattern c =
    let t0 = c.args.context.now.grammar.now in
    let l = tree_of t0 c.args.table.now c.args.leaf.0 in
    let is = is_over t0 c.args.table.now c.args.leaf.0 c.pattern.result.now _ c.pattern.ensures.table c.pattern.ensures.found c.in-Attribute-pattern.is in
    if_some c.attribute_takes.result _ _ (λ b h. subst (λ first. TellsTaken (reading_of t0) first l b) (sym c.in-Attribute.is)
    (subst (λ p. TellsTaken (reading_of t0) (firsts.Attribute c.in-Attribute.attr) p b) (sym is) h)) c.attribute_takes.ensures

use Rattle.std.proofs.Common.{sym, subst}
use Rattle.rng_model.specs.matching.GrammarMatching.{reading_of}
use Rattle.rng_deriv_table.specs.views.Trees.{tree_of}
use Rattle.rng_deriv_ways.proofs.PatternNodes.{is_over}
use Rattle.rng_deriv_texts.specs.plain.After.{TellsTaken}
use Rattle.rng_deriv_texts.specs.declared.first.First.TheVariants as firsts
use Rattle.rng_deriv_texts.proofs.LeafKinds.{tells_of_text}
use Rattle.rng_deriv_texts.proofs.SettledRests.{if_some}
use Rattle.rng_deriv_texts.proofs.settled.text_leaf_takes.Goals as goal

pub returns-in-Text : goal.returns-in-Text
returns-in-Text c = λ place.
    let t0 = c.args.context.now.grammar.now in
    tells_of_text (reading_of t0) place c.args.text (tree_of t0 c.args.table.now c.args.leaf.0)
    (is_over t0 c.args.table.now c.args.leaf.0 c.pattern.result.now _ c.pattern.ensures.table c.pattern.ensures.found c.in-Text.is)

pub returns-in-Data : goal.returns-in-Data
returns-in-Data c =
    let t0 = c.args.context.now.grammar.now in
    let is = is_over t0 c.args.table.now c.args.leaf.0 c.pattern.result.now _ c.pattern.ensures.table c.pattern.ensures.found c.in-Data.is in
    if_some c.datum_takes.result _ _ (λ b h place. subst (λ p. TellsTaken (reading_of t0) (firsts.Text place c.args.text) p b) (sym is) (h place))
    c.datum_takes.ensures

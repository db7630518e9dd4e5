use Rattle.std.proofs.Common.{◌≡◌, ◌∙◌, ◌↔◌, ◌<◌, ◌∷◌, [], Some, true, refl, sym, ap, subst, arith, rules}
use Rattle.std.proofs.lemmas.Option.{slice_get_within}
use Rattle.rng_names.proofs.Holding.{decides_holds}
use Rattle.rng_model.specs.matching.GrammarMatching.{reading_of}
use Rattle.rng_model.specs.names.NameViews.{class_of, name_of}
use Rattle.rng_model.specs.simple.Table.{tree_at}
use Rattle.rng_names.specs.plain.Holding.{holds}
use Rattle.rng_model.specs.matching.Document.{a_text}
use Rattle.rng_deriv_laws.specs.plain.Restricted.{IsRestricted}
use Rattle.rng_deriv_laws.specs.plain.Taking.{WeaklyTakes}
use Rattle.rng_deriv_table.specs.plain.AskedFor.{as_part}
use Rattle.rng_deriv_table.specs.views.Trees.{attribute_found}
use Rattle.rng_deriv_texts.proofs.LeafKinds.{tells_of_attribute, tells_of_other_name}
use Rattle.rng_deriv_texts.proofs.SettledRests.{if_some}
use Rattle.rng_deriv_texts.proofs.settled.attribute_takes.Goals as goal

pub value_takes-requires-clause-inside : goal.value_takes-requires-clause-inside
value_takes-requires-clause-inside c =
    let found = sym c.in_ok-row.ensures.value in
    let within = slice_get_within c.args.context.now.grammar.now.patterns c.args.position.0 _ found in
    let below : c.in-Attribute.body.0 < c.args.position.0 = search rules in
    let long = c.requires.ready.long in
    omega (arith, within, below, long)

pub returns-then-not-contains : goal.returns-then-not-contains
returns-then-not-contains c =
    let t0 = c.args.context.now.grammar.now in
    let found = sym c.in_ok-row.ensures.value ∙ ap Some c.in-Attribute.is in
    tells_of_other_name (reading_of t0) c.args.attr _ (class_of c.in-Attribute.class.value) (tree_at t0.patterns c.in-Attribute.body)
    (ap (attribute_found t0) found)
    (sym (decides_holds c.contains.result (class_of c.deref.result.now) (name_of c.args.attr.now.name) c.contains.ensures
    ∙ ap (λ class. holds (class_of class) (name_of c.args.attr.now.name)) c.deref.ensures)
    ∙ c.if-not-contains.true)

pub returns : goal.returns
returns c =
    let t0 = c.args.context.now.grammar.now in
    let found = sym c.in_ok-row.ensures.value ∙ ap Some c.in-Attribute.is in
    if_some c.value_takes.result _ _ (λ b h. tells_of_attribute (reading_of t0) c.args.attr _ (class_of c.in-Attribute.class.value)
    (tree_at t0.patterns c.in-Attribute.body) b (ap (attribute_found t0) found)
    (sym (decides_holds c.contains.result (class_of c.deref.result.now) (name_of c.args.attr.now.name) c.contains.ensures
    ∙ ap (λ class. holds (class_of class) (name_of c.args.attr.now.name)) c.deref.ensures)
    ∙ c.if-not-contains.false) (subst (λ s. IsRestricted (tree_at t0.patterns c.in-Attribute.body) → (b ≡ true)
    ↔ WeaklyTakes (reading_of t0) (tree_at t0.patterns c.in-Attribute.body) [] (a_text s ∷ [])) c.as_str.ensures.value
    (h (as_part c.args.position.0 _ found refl)))) c.value_takes.ensures

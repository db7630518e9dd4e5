use Rattle.std.proofs.Common.{◌∙◌, ap, sym, Some, slice_get}
use Rattle.rng_names.proofs.Holding.{decides_holds}
use Rattle.rng_model.specs.names.NameViews.{class_of, name_of}
use Rattle.rng_names.specs.plain.Holding.{holds}
use Rattle.rng_deriv_table.specs.views.Trees.{attribute_found}
use Rattle.rng_model.specs.matching.GrammarMatching.{reading_of}
use Rattle.rng_deriv_ways.specs.plain.Kinds.{takes_kind}
use Rattle.rng_deriv_ways.specs.declared.way.Kind.TheVariants as kinds
use Rattle.rng_deriv_ways.proofs.leaves.attribute_takes.Goals as goal

pub returns-in-Some-Attribute : goal.returns-in-Some-Attribute
returns-in-Some-Attribute c =
    let t = c.args.grammar.now in
    let found = sym c.in-Some-Attribute.ensures.value ∙ ap Some c.in-Some-Attribute.field-0-is in
    decides_holds c.contains.result (class_of c.deref.result.now) (name_of c.in-Attribute.name.now) c.contains.ensures
    ∙ ap (λ class. holds (class_of class) (name_of c.in-Attribute.name.now)) c.deref.ensures
    ∙ ap (λ o. takes_kind (reading_of t) (kinds.Attribute c.in-Attribute.name) (attribute_found t o)) (sym found)
    ∙ ap (λ kind. takes_kind (reading_of t) kind (attribute_found t (slice_get t.patterns c.args.position.0))) (sym c.in-Attribute.is)

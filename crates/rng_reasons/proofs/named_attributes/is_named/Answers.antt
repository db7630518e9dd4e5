use Rattle.std.proofs.Common.{◌∙◌, ap, sym, Some}
use Rattle.rng_names.proofs.Holding.{decides_holds}
use Rattle.rng_names.specs.plain.Holding.{holds}
use Rattle.rng_model.specs.names.NameViews.{class_of, name_of}
use Rattle.rng_deriv_table.specs.views.Trees.{attribute_found}
use Rattle.rng_reasons.specs.NamedAttributes.{has_named}
use Rattle.rng_reasons.proofs.named_attributes.is_named.Goals as goal

pub returns-in-Some-Attribute : goal.returns-in-Some-Attribute
returns-in-Some-Attribute c =
    let t = c.args.grammar.now in
    let q = name_of c.args.name.now in
    let found = sym c.in-Some-Attribute.ensures.value ∙ ap Some c.in-Some-Attribute.field-0-is in
    decides_holds c.contains.result (class_of c.deref.result.now) q c.contains.ensures
    ∙ ap (λ class. holds (class_of class) q) c.deref.ensures
    ∙ ap (λ o. has_named q (attribute_found t o)) (sym found)

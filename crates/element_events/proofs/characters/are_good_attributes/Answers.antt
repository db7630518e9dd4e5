use Rattle.std.proofs.Common.{◌∙◌, ap, sym, arith}
use Rattle.std.specs.List.{list_all}
use Rattle.std.proofs.lemmas.List.{take_all}
use Rattle.std.proofs.lemmas.List.Folds.{list_all-map, list_all_at}
use Rattle.rng_model.specs.documents.Telling.{is_good_attribute}
use Rattle.element_events.specs.views.Told.{attribute_told}
use Rattle.element_events.proofs.characters.are_good_attributes.Goals as goal

pub returns-then-not-is_good_attribute : goal.returns-then-not-is_good_attribute
returns-then-not-is_good_attribute c =
    sym (list_all-map is_good_attribute attribute_told c.args.attributes.now
    ∙ list_all_at (λ a. is_good_attribute (attribute_told a)) c.args.attributes.now c.attributes.attribute-index _ c.attributes-test.true
    (sym c.is_good_attribute.ensures ∙ c.if-not-is_good_attribute.true))

pub returns : goal.returns
returns c =
    sym (list_all-map is_good_attribute attribute_told c.args.attributes.now
    ∙ ap (list_all (λ a. is_good_attribute (attribute_told a)))
    (sym (take_all c.attributes.attribute-index c.args.attributes.now (omega (arith, c.attributes-test.false)))) ∙ c.attributes.invariant)

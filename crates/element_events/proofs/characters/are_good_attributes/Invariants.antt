use Rattle.std.proofs.Common.{◌≡◌, true, take}
use Rattle.std.specs.List.{list_all}
use Rattle.rng_model.specs.documents.Telling.{is_good_attribute}
use Rattle.element_events.specs.views.Told.{attribute_told}
use Rattle.element_events.proofs.characters.are_good_attributes.Given as goal

-- the attributes so far are good
abbrev pub invariant-attributes : goal.invariant-attributes
invariant-attributes l = list_all (λ a. is_good_attribute (attribute_told a)) (take l.attribute-index l.attributes) ≡ true

use Rattle.std.proofs.Common.{◌≡◌, map, take}
use Rattle.rng_model.specs.documents.EventViews.{attribute_of}
use Rattle.element_events.specs.views.Told.{attribute_told}
use Rattle.rncv_events.proofs.copies.copied_attributes.Given as goal

-- the attributes so far are copied
abbrev pub invariant-attributes : goal.invariant-attributes
invariant-attributes l = map attribute_of l.copies.items ≡ map attribute_told (take l.attribute-index l.attributes)

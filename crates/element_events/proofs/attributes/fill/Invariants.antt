use Rattle.std.proofs.Common.{◌≡◌, ◌≤◌, length, map, take}
use Rattle.rng_model.specs.documents.EventViews.{attribute_of}
use Rattle.element_events.specs.views.Told.{attribute_told}
use Rattle.element_events.proofs.attributes.fill.Given as goal

-- the attributes so far are copied
abbrev pub invariant-attributes : goal.invariant-attributes
invariant-attributes l = (length l.attributes ≤ length l.slots.items)
    × (map attribute_of (take l.place l.slots.items) ≡ map attribute_told (take l.place l.attributes))

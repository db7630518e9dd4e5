use Rattle.std.proofs.Common.{◌≡◌, map, take}
use Rattle.rng_model.specs.documents.EventViews.{attribute_of}
use Rattle.rng_deriv_events.proofs.failed_event.copied_attributes.Given as goal

-- the attributes so far are copied
abbrev pub invariant-attributes : goal.invariant-attributes
invariant-attributes l = map attribute_of l.copies.items ≡ map attribute_of (take l.attr-index l.attrs)

use Rattle.std.proofs.Common.{map, take}
use Rattle.rng_model.specs.matching.Document.{HasNoName}
use Rattle.element_events.specs.views.Told.{attribute_told, name_told}
use Rattle.element_events.proofs.repeats.is_unnamed.Given as goal

-- no attribute so far has the name
abbrev pub invariant-attributes : goal.invariant-attributes
invariant-attributes l = HasNoName (name_told l.name) (map attribute_told (take l.attribute-index l.attributes))

use Rattle.std.proofs.Common.{map, take}
use Rattle.rng_model.specs.matching.Document.{Distinct}
use Rattle.element_events.specs.views.Told.{attribute_told}
use Rattle.element_events.proofs.repeats.are_distinct_pairs.Given as goal

-- no two attributes so far have the same name
abbrev pub invariant-attributes : goal.invariant-attributes
invariant-attributes l = Distinct (map attribute_told (take l.i l.attributes))

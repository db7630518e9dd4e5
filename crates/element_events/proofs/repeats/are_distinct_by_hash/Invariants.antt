use Rattle.std.proofs.Common.{◌≡◌, map, take}
use Rattle.rng_model.specs.matching.Document.{Distinct}
use Rattle.element_events.specs.views.Told.{attribute_told, name_told}
use Rattle.element_events.proofs.DistinctNames.{names_in}
use Rattle.element_events.proofs.repeats.are_distinct_by_hash.Given as goal

-- the names so far are in the set, and no two are the same
abbrev pub invariant-attributes : goal.invariant-attributes
invariant-attributes l = record {
  names : map name_told l.names.keys ≡ names_in (map attribute_told (take l.attribute-index l.attributes));
  distinct : Distinct (map attribute_told (take l.attribute-index l.attributes));
}

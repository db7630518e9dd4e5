use Rattle.std.proofs.Common.{◌≡◌, map, take}
use Rattle.rng_model.specs.datatypes.DatatypeViews.{parameter_of}
use Rattle.rng_simple.proofs.copying.same_datatype.Given as goal

abbrev pub invariant-parameters : goal.invariant-parameters
invariant-parameters l = map parameter_of l.parameters.items ≡ take l.name-index (map parameter_of l.datatype.parameters.items)

use Rattle.std.proofs.Common.{◌≡◌, map, drop}
use Rattle.rng_model.specs.datatypes.DatatypeViews.{parameter_of}
use Rattle.rng_model.specs.datatypes.Facets.{named}
use Rattle.rng_types.proofs.parameters.value_named.Given as goal

-- none of the parameters so far has the name
abbrev pub invariant-loop-param : goal.invariant-loop-param
invariant-loop-param l = named l.name (map parameter_of l.params) ≡ named l.name (map parameter_of (drop l.param-index l.params))

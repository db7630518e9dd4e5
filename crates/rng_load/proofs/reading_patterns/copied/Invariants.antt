use Rattle.std.proofs.Common.{◌≡◌, ◌++◌, map, drop}
use Rattle.rng_model.specs.datatypes.DatatypeViews.{parameter_of}
use Rattle.rng_load.proofs.reading_patterns.copied.Given as goal

abbrev pub invariant-loop-name : goal.invariant-loop-name
invariant-loop-name l = map parameter_of l.parameters ≡ map parameter_of l.all.items ++ map parameter_of (drop l.name-index l.parameters)

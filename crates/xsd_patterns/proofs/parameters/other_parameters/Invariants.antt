use Rattle.std.proofs.Common.{◌≡◌, ◌++◌, map, drop}
use Rattle.rng_model.specs.datatypes.DatatypeViews.{parameter_of}
use Rattle.rng_model.specs.regexes.Patterns.{other_parameters}
use Rattle.xsd_patterns.proofs.parameters.other_parameters.Given as goal

-- the others so far, and those that are to come
abbrev pub invariant-loop-param : goal.invariant-loop-param
invariant-loop-param l =
    other_parameters (map parameter_of l.params) ≡ map parameter_of l.others.items ++ other_parameters (map parameter_of (drop l.param-index l.params))

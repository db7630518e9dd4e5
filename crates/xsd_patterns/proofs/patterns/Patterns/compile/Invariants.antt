use Rattle.std.proofs.Common.{map, drop}
use Rattle.rng_model.specs.datatypes.DatatypeViews.{parameter_of}
use Rattle.xsd_patterns.proofs.Collected.{ArePending}
use Rattle.xsd_patterns.proofs.patterns.Patterns.compile.Given as goal

-- the expressions so far, and the parameters that are to come
abbrev pub invariant-loop-param : goal.invariant-loop-param
invariant-loop-param l = ArePending (map parameter_of l.params) (map parameter_of (drop l.param-index l.params)) l.expressions.items

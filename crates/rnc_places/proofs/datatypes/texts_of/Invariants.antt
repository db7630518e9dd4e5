use Rattle.std.proofs.Common.{◌≡◌, ◌++◌, map, drop}
use Rattle.rng_model.specs.datatypes.DatatypeViews as datatypes
use Rattle.rnc_syntax.specs.views.SyntaxView as syntax
use Rattle.rnc_places.proofs.datatypes.texts_of.Given as goal

abbrev pub invariant-loop-parameter : goal.invariant-loop-parameter
invariant-loop-parameter l = map syntax.parameter_of l.parameters ≡ map datatypes.parameter_of l.texts.items
    ++ map syntax.parameter_of (drop l.parameter-index l.parameters)

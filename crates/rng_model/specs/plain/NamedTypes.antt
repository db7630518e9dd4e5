-- The type of a name among all types of the library of XML Schema.
use Rattle.std.specs.Prelude.{ℕ, List, Option}
use Rattle.std.specs.Option.{option_and_then}
use Rattle.rng_model.specs.datatypes.Facets.{Parameter, named}
use Rattle.rng_model.specs.datatypes.Datatypes.{Meaning}
use Rattle.rng_model.specs.xsd.Datatypes.{complete_types}

-- the values of texts in the type of that name with these parameters, if there is one and it takes them
abbrev pub meaning_named : List ℕ → List Parameter → Option Meaning
meaning_named name ps = option_and_then (λ make. make ps) (named name complete_types)

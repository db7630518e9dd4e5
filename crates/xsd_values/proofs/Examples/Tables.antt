-- What the table of types allows and equates, for worked cases.
use Rattle.std.specs.Prelude.{ℕ, List, [], Bool}
use Rattle.rng_model.specs.datatypes.Facets.{Parameter}
use Rattle.rng_model.specs.datatypes.Datatypes as datatypes
use Rattle.rng_model.specs.plain.NamedTypes.{meaning_named}

abbrev pub allows : List ℕ → List Parameter → List ℕ → Bool
allows name ps s = datatypes.known_allows (meaning_named name ps) s

abbrev pub equates : List ℕ → List ℕ → List ℕ → Bool
equates name v w = datatypes.known_equates (meaning_named name []) v w

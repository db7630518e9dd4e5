-- The sets of datatypes with which a schema may be compiled. Which datatypes a processor knows is its own choice (RELAX NG
-- Specification, section 4.16).
use Rattle.std.specs.Prelude.{ℕ, List, Bool, true, Option, is_some, IsTrue, ◌&&◌}
use Rattle.rng_model.specs.simple.Tree.{Datatype}
use Rattle.rng_model.specs.datatypes.Texts.{TextTests, pieces}
use Rattle.rng_model.specs.datatypes.Datatypes.{Meaning, meaning_of, known_allows, known_equates}
use Rattle.rng_model.specs.xsd.Datatypes.{complete_meaning_of, takes_values}
use Rattle.rng_model.specs.declared.type_set.TypeSet.{TypeSet}
use Rattle.rng_model.specs.declared.type_set.TypeSet.TheVariants as sets

-- the values of texts in a datatype, if the set has it with these parameters
abbrev pub meaning_in : TypeSet → Datatype → Option Meaning
meaning_in sets.Profile d = meaning_of d
meaning_in sets.XmlSchema d = complete_meaning_of d

-- the datatype is one of the set, with parameters that it takes
abbrev pub IsKnownIn : TypeSet → Datatype → Type 0
IsKnownIn types d = IsTrue (is_some (meaning_in types d))

-- what the datatypes of the set say of texts
abbrev pub tests_in : TypeSet → TextTests
tests_in types = record {
  allows = λ d s. known_allows (meaning_in types d) s;
  equals = λ d v w. known_equates (meaning_in types d) v w;
  pieces = pieces;
}

-- texts may be given as values of the datatype
abbrev pub takes_values_in : TypeSet → Datatype → Bool
takes_values_in sets.Profile d = true
takes_values_in sets.XmlSchema d = takes_values d

-- the text may be given as a value of the datatype, and is allowed by it
abbrev pub IsValueIn : TypeSet → Datatype → List ℕ → Type 0
IsValueIn types d v = IsTrue (takes_values_in types d && (tests_in types).allows d v)

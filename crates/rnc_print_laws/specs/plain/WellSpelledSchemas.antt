-- Well spelled patterns as they are written: their names are NCNames, their texts are made of Chars, and their name
-- classes nest within the limit. With known datatypes they are printable (RELAX NG Compact Syntax, "Syntax").
use Rattle.std.specs.Prelude.{ℕ, List, Option, Some, None}
use Rattle.std.specs.List.{AllByRecursion}
use Rattle.rng_model.specs.schema.Patterns.{Place, Pattern, not_allowed, empty, text, element, attribute, list, data_of, data_except, value, mixed, optional}
use Rattle.rng_model.specs.schema.Patterns.{zero_or_more, one_or_more, joined, ref, parent_ref, grammar, external, Patterns, no_patterns, pattern_and}
use Rattle.rng_model.specs.schema.Schema.{Schema, Component, HasComponent}
use Rattle.rng_model.specs.simple.Tree.{Datatype}
use Rattle.rnc_print_laws.specs.plain.Printable.{IsText, IsName, IsPrintableClass, IsPrintableParameter}

-- the library of the type is a text, and its name is an NCName
abbrev pub IsWellSpelledType : List ℕ → List ℕ → Type 0
IsWellSpelledType library name = IsText library × IsName name

-- the same for the parameters, with their texts
abbrev pub IsWellSpelledDatatype : Datatype → Type 0
IsWellSpelledDatatype d = IsWellSpelledType d.library d.name × AllByRecursion IsPrintableParameter d.parameters

-- everything in the pattern is well spelled
abbrev mutual
  pub IsWellSpelledPattern : Pattern → Type 0
  IsWellSpelledPattern not_allowed = Unit {0}
  IsWellSpelledPattern empty = Unit {0}
  IsWellSpelledPattern text = Unit {0}
  IsWellSpelledPattern (element c p) = IsPrintableClass c × IsWellSpelledPattern p
  IsWellSpelledPattern (attribute c p) = IsPrintableClass c × IsWellSpelledPattern p
  IsWellSpelledPattern (list p) = IsWellSpelledPattern p
  IsWellSpelledPattern (data_of d) = IsWellSpelledDatatype d
  IsWellSpelledPattern (data_except d p) = IsWellSpelledDatatype d × IsWellSpelledPattern p
  IsWellSpelledPattern (value library name v) = IsWellSpelledType library name × IsText v
  IsWellSpelledPattern (mixed p) = IsWellSpelledPattern p
  IsWellSpelledPattern (optional p) = IsWellSpelledPattern p
  IsWellSpelledPattern (zero_or_more p) = IsWellSpelledPattern p
  IsWellSpelledPattern (one_or_more p) = IsWellSpelledPattern p
  IsWellSpelledPattern (joined k p q ps) = IsWellSpelledPattern p × IsWellSpelledPattern q × AreWellSpelledPatterns ps
  IsWellSpelledPattern (ref y) = IsName y
  IsWellSpelledPattern (parent_ref y) = IsName y
  IsWellSpelledPattern (grammar z) = Unit {0}
  IsWellSpelledPattern (external p) = IsWellSpelledPattern p

  pub AreWellSpelledPatterns : Patterns → Type 0
  AreWellSpelledPatterns no_patterns = Unit {0}
  AreWellSpelledPatterns (pattern_and p ps) = IsWellSpelledPattern p × AreWellSpelledPatterns ps

-- the name of a component is an NCName, unless it is part of a start
abbrev pub IsWellSpelledName : Option (List ℕ) → Type 0
IsWellSpelledName None = Unit {0}
IsWellSpelledName (Some y) = IsName y

abbrev pub IsWellSpelledComponent : Component → Type 0
IsWellSpelledComponent c = IsWellSpelledName c.name × IsWellSpelledPattern c.pattern

-- all components of the schema are well spelled
abbrev pub IsWellSpelledSchema : Schema → Type 0
IsWellSpelledSchema s = (x : Place) (c : Component) → HasComponent s x c → IsWellSpelledComponent c

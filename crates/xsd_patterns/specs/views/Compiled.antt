-- What patterns are made of, and what they match.
use Rattle.std.specs.Prelude.{◌≡◌, ℕ, List, Option, Some, None, if◌then◌else◌}
use Rattle.rng_model.specs.datatypes.Facets.{Parameter}
use Rattle.rng_model.specs.datatypes.Datatypes.{Meaning}
use Rattle.rng_model.specs.regexes.Expressions.{Regex}
use Rattle.rng_model.specs.regexes.Patterns.{patterns_of}
use Rattle.xsd_automaton.specs.declared.white_space.WhiteSpace.{WhiteSpace}
use Rattle.xsd_automaton.specs.views.WhiteSpace.{treated}
use Rattle.xsd_patterns.specs.declared.patterns.Patterns.{Patterns}
use Rattle.xsd_patterns.specs.Facet.{expressions_of, all_match}

-- the expressions are those that the parameters write
pub record AreThoseOf (ps : List Parameter) (texts : List (List ℕ)) : Type 0 where
  pub expressions : List Regex
  pub written : patterns_of ps ≡ Some expressions
  pub taken : expressions_of texts ≡ Some expressions

-- patterns with this white space, if each of the parameters is taken
abbrev pub AreCompiled : WhiteSpace → List Parameter → Option Patterns → Type 0
AreCompiled w ps None = patterns_of ps ≡ None
AreCompiled w ps (Some p) = (p.white_space ≡ w) × AreThoseOf ps p.expressions.items

-- the values of texts that the patterns match
abbrev pub restricted : Patterns → Meaning → Meaning
restricted p meaning s = if all_match (expressions_of p.expressions.items) (treated p.white_space) s then meaning s else None

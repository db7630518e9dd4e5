-- Views of the grammars of a schema by their places, without their place in memory.
use Rattle.std.specs.Prelude.{List, map, Option, Some, None, option_map}
use Rattle.std.specs.Map.{lookup}
use Rattle.std.specs.Str.{bytes_eq}
use Rattle.indexmap.specs.IndexMap.{IndexMap}
use Rattle.rng_model.specs.schema.Patterns as pattern
use Rattle.rng_model.specs.schema.Schema as schema
use Rattle.rng_model.specs.views.SchemaView.{place_of, schema_component_of}
use Rattle.rng_model.specs.declared.place.Place.{Place}
use Rattle.rng_load.specs.declared.schema.Grammar.{Grammar}

-- the components of a grammar, and the place of the grammar around it
pub record PlacedGrammar : Type 0 where
  pub components : List schema.Component
  pub outer : Option pattern.Place

abbrev pub PlacedGrammars : Type 0
PlacedGrammars = List (pattern.Place × PlacedGrammar)

abbrev pub grammar_of : Grammar → PlacedGrammar
grammar_of g = record { components = map schema_component_of g.components.items; outer = option_map place_of g.outer }

abbrev pub placed_grammars : List (Place × Grammar) → PlacedGrammars
placed_grammars entries = map (λ e. (place_of e.0, grammar_of e.1)) entries

module _ {S : Type 0} where
  abbrev pub grammars_of : IndexMap Place Grammar S → PlacedGrammars
  grammars_of grammars = placed_grammars grammars.entries

-- the grammar at a place
abbrev pub grammar_at : PlacedGrammars → pattern.Place → Option PlacedGrammar
grammar_at gs x = lookup (bytes_eq x) gs

abbrev pub outer_if : Option PlacedGrammar → Option pattern.Place
outer_if None = None
outer_if (Some g) = g.outer

-- grammars at their places, with the main one at this place
abbrev pub schema_with : pattern.Place → PlacedGrammars → schema.Schema
schema_with main gs = record {
  main = main;
  components = λ x. option_map (λ g. g.components) (grammar_at gs x);
  outer = λ x. outer_if (grammar_at gs x);
}

-- what the code keeps of a schema: the place of the main grammar, and each grammar with its place
pub record SchemaEntries : Type 0 where
  pub main : Place
  pub grammars : List (Place × Grammar)

abbrev pub schema_of : SchemaEntries → schema.Schema
schema_of s = schema_with (place_of s.main) (placed_grammars s.grammars)

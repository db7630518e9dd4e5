-- The parts of a grammar that are gathered.
use Rattle.std.specs.Prelude.{◌≡◌, ◌++◌, List, map}
use Rattle.rng_model.specs.views.SchemaView.{schema_component_of}
use Rattle.rng_load.specs.declared.gathering.GrammarParts.{GrammarParts}
use Rattle.rng_load.specs.plain.FoundGrammars.{nested_in}
use Rattle.rnc_model.specs.loading.Places.{Gathered}
use Rattle.rng_load.specs.views.ReadPatterns.{nested_of}

-- the components and the nested grammars of what is gathered
pub record AreParts (parts : GrammarParts) (all : List Gathered) : Type 0 where
  pub components : map schema_component_of parts.components.items ≡ map (λ g. g.component) all
  pub nested : map nested_of parts.nested.items ≡ nested_in all

-- the same once these are appended that are not in the parts yet
pub record AreJoined (parts : GrammarParts) (rest all : List Gathered) : Type 0 where
  pub components : map schema_component_of parts.components.items ++ map (λ g. g.component) rest ≡ map (λ g. g.component) all
  pub nested : map nested_of parts.nested.items ++ nested_in rest ≡ nested_in all

-- When everything that a schema mentions is found.
use Rattle.std.specs.Prelude.{◌≡◌, Some}
use Rattle.rng_model.specs.simple.Tree.{Tree}
use Rattle.rng_model.specs.schema.Patterns.{Point}
use Rattle.rng_model.specs.schema.Schema.{Schema, Definition, body}
use Rattle.rng_model.specs.schema.Unfolding.{to_definition, to_nothing}
use Rattle.rng_simple.specs.plain.Met.{Met}

-- each definition that is met has a body, and nothing is looked up in a grammar around that does not exist
pub record IsReady (s : Schema) : Type 0 where
  pub found : ¬ (Met s to_nothing)
  pub bodies : (d : Definition) → Met s (to_definition d) → (a : Tree Point) × (body s d ≡ Some a)

-- The places of the grammars of a schema.
use Rattle.std.specs.Prelude.{◌≡◌, List, Some, Contains}
use Rattle.rng_model.specs.names.Lists.{HasTwice}
use Rattle.rng_model.specs.schema.Patterns.{Place}
use Rattle.rng_model.specs.schema.Schema.{Component, Schema}

-- exactly these places have a grammar, and each is listed once
pub record AreItsPlaces (s : Schema) (places : List Place) : Type 0 where
  pub there : (x : Place) → Contains places x → (components : List Component) × (s.components x ≡ Some components)
  pub all : (x : Place) (components : List Component) → s.components x ≡ Some components → Contains places x
  pub once : ¬ (HasTwice places)

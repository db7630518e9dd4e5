-- Schemas whose grammars are in their places.
use Rattle.std.specs.Prelude.{◌≡◌, List, Some, None}
use Rattle.rng_model.specs.schema.Patterns.{Place, grammar}
use Rattle.rng_model.specs.schema.Schema.{Schema, Component, IsWrittenAt}

-- The grammars of a schema are in their places. The main one is there, and no grammar is around it. Each grammar that
-- is nested in another is there, and the grammar around it is the one in which it is written.
pub record IsWellPlaced (s : Schema) : Type 0 where
  pub components : List Component
  pub main : s.components s.main ≡ Some components
  pub outermost : s.outer s.main ≡ None
  pub nested : (x z : Place) → IsWrittenAt s x (grammar z) → (cs : List Component) × (s.components z ≡ Some cs) × (s.outer z ≡ Some x)

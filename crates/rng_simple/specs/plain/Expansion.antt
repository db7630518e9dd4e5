-- Expansion that ends: what is reached has trees (RELAX NG Specification, section 4.19).
use Rattle.rng_model.specs.simple.Tree.{Tree}
use Rattle.rng_model.specs.schema.Patterns.{Place, Point}
use Rattle.rng_model.specs.schema.Schema.{Schema, main_start}
use Rattle.rng_model.specs.schema.Unfolding.{Leaf, Unfolds, IsTreeOf, IsBodyOf, IsReachedByTrees}

-- the pattern at the place has a tree
abbrev pub HasTree : Schema → Place → Tree Point → Type 0
HasTree s x a = (t : Tree Leaf) × Unfolds s x a t

-- S16 is not broken: the start has a tree, and so has the body of each element that is reached
pub record KeepsExpansion (s : Schema) : Type 0 where
  pub start : (t : Tree Leaf) × IsTreeOf s (main_start s) t
  pub bodies : (l : Leaf) → IsReachedByTrees s l → (t : Tree Leaf) × IsBodyOf s l t

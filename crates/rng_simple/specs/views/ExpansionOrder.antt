-- Which schema a graph in memory is of, and what the result about expansion and depth must be (RELAX NG Specification,
-- section 4.19; the limit of depth is profile).
use Rattle.std.specs.Prelude.{◌≡◌, ◌⊎◌, ℕ, ◌<◌, List, length, map, All, Contains}
use Rattle.rng_model.specs.schema.Schema.{Schema, Definition}
use Rattle.rng_model.specs.schema.SchemaClauses.{BreaksExpansion, BreaksDepth}
use Rattle.rng_model.specs.schema.Unfolding.{Leaf}
use Rattle.rng_model.specs.declared.fault.SchemaFault.{SchemaFault}
use Rattle.rng_model.specs.declared.fault.SchemaFault.TheVariants as faults
use Rattle.rng_simple.specs.plain.Graph.{Graph, IsGraphOf, IsOrderBy, Mentions}
use Rattle.rng_simple.specs.views.GraphView.{graph_of, classes_of}
use Rattle.rng_simple.specs.declared.graph.parts.Graph as declared

-- the graph has exactly the definitions and the elements of the schema that are met, numbered in some order
pub record IsGraphOfSchema (s : Schema) (g : declared.Graph) : Type 0 where
  pub definitions : List Definition
  pub elements : List Leaf
  pub is : IsGraphOf s definitions elements (graph_of g)
  pub classes : map (λ m. m.class) elements ≡ classes_of g

-- it is the graph of some schema
abbrev pub IsGraphOfSome : declared.Graph → Type 0
IsGraphOfSome g = (s : Schema) × IsGraphOfSchema s g

-- all definitions, each after those that its body mentions outside elements
pub record IsWholeOrder (g : Graph) (js : List ℕ) : Type 0 where
  pub order : IsOrderBy (Mentions g) js
  pub within : All (λ j. j < length g.bodies) js
  pub whole : (j : ℕ) → j < length g.bodies → Contains js j

-- the schema breaks clause 16, or clause 17 and not 16; out of memory says nothing about the schema
abbrev pub IsExpansionFault : Schema → SchemaFault → Type 0
IsExpansionFault s faults.Memory = Unit {0}
IsExpansionFault s (faults.Clause n) = ((n ≡ 16) × BreaksExpansion s) ⊎ ((n ≡ 17) × BreaksDepth s × ¬ (BreaksExpansion s))
IsExpansionFault s (faults.File n name) = ⊥

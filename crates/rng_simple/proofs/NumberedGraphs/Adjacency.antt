-- If the lists have the mentions of a graph, then an order or a loop by the lists is an order or a loop of the graph.
use Rattle.std.proofs.Common.{◌↔◌, ℕ, ◌<◌, List, length, All, Contains}
use Rattle.rng_model.specs.schema.Schema.{Schema, Definition}
use Rattle.rng_model.specs.schema.Unfolding.{Leaf}
use Rattle.rng_simple.specs.plain.Expansion.{KeepsExpansion}
use Rattle.rng_model.specs.schema.SchemaClauses.{BreaksExpansion}
use Rattle.rng_simple.specs.plain.Graph.{Graph, IsGraphOf, Mentions, IsOrderBy, no_numbers, and_number, LeadsBy, by_one, by_more}
use Rattle.rng_simple.specs.plain.Search.{Lists}
use Rattle.rng_simple.proofs.NumberedGraphs.JudgedByNumbers.{loop_breaks_expansion, order_keeps_expansion}

module _ {A : Type 0} (M N : A → A → Type 0) (f : (x y : A) → N x y → M x y) where
  pub order_by : {xs : List A} → IsOrderBy M xs → IsOrderBy N xs
  order_by no_numbers = no_numbers
  order_by (and_number x o g e) = and_number x (order_by o) (λ y n. g y (f x y n)) e

  pub leads_by : {x y : A} → LeadsBy N x y → LeadsBy M x y
  leads_by (by_one n) = by_one (f _ _ n)
  leads_by (by_more n w) = by_more (f _ _ n) (leads_by w)

-- the lists have exactly what the bodies mention
module _ (s : Schema) (ds : List Definition) (ls : List Leaf) (g : Graph) (is : IsGraphOf s ds ls g) (all : List (List ℕ))
    (listed : (j i : ℕ) → Mentions g j i ↔ Lists all j i) where
  pub order_of_graph : {js : List ℕ} → IsOrderBy (Lists all) js → IsOrderBy (Mentions g) js
  order_of_graph = order_by (Lists all) (Mentions g) (λ j i. (listed j i).0)

  pub order_keeps : {js : List ℕ} → IsOrderBy (Lists all) js → All (λ j. j < length ds) js → ((j : ℕ) → j < length ds → Contains js j) → KeepsExpansion s
  order_keeps o h c = order_keeps_expansion s ds ls g is (order_of_graph o) h c

  pub loop_breaks : (j : ℕ) → j < length ds → LeadsBy (Lists all) j j → BreaksExpansion s
  loop_breaks j h w = loop_breaks_expansion s ds ls g is j h (leads_by (Mentions g) (Lists all) (λ x y. (listed x y).1) w)

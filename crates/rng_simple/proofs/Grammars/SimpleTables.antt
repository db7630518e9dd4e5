-- Tables of simple forms that are filled in along an order are right: by definitions, and by the numbers of a graph.
use Rattle.std.proofs.Common.{◌≡◌, refl, ap, sym, ◌∙◌, ℕ, List, length, Contains}
use Rattle.rng_model.specs.simple.Tree.{Tree, leaf, Simple, s_leaf, s_not_allowed}
use Rattle.rng_model.specs.schema.Patterns.{Place, Point}
use Rattle.rng_model.specs.schema.Schema.{Schema, Definition}
use Rattle.rng_model.specs.simple.Leaves.{LeafIn}
use Rattle.rng_model.specs.schema.Unfolding.{Leaf, aim, Unfolds}
use Rattle.rng_simple.specs.plain.Met.{IsSettled, IsOrder}
use Rattle.rng_simple.specs.plain.DepthWith.{of_aim, IsFilled, IsRight}
use Rattle.rng_simple.specs.plain.Graph.{Spot, at_element, at_definition, Graph, element_aim, definition_aim, aim_at, IsSpotBelow, IsResolved, IsGraphOf}
use Rattle.rng_simple.specs.plain.Graph.{of_spot, leaf_number}
use Rattle.rng_simple.proofs.LoopsAndDepths.TablesInOrder.{body_right, filled_right}
use Rattle.rng_simple.proofs.NumberedGraphs.TableEntries.{ReadsMentions}
use Rattle.rng_simple.proofs.NumberedGraphs.Graphs.{found}
use Rattle.rng_simple.proofs.NumberedGraphs.GraphTables.{number_is, leaf_number_is, table_of}
use Rattle.rng_simple.specs.plain.SimpleWith.{simple_with, simple_at}
use Rattle.rng_simple.specs.plain.GrammarBy.{spot_simple}
use Rattle.rng_simple.proofs.Grammars.PointSimples.{simple_is}
use Rattle.rng_simple.proofs.Leaves.SimpleLeaves.{simple_same}

-- ---- by definitions, with any names for the elements

module _ (s : Schema) {L : Type 0} (name : Leaf → Simple L) (table : Definition → Simple L) where
  named_right : (x : Place) (a : Tree Point) (t : Tree Leaf) → Unfolds s x a t
      → ((l : Point) (v : Tree Leaf) → LeafIn l a → Unfolds s x (leaf l) v → of_aim name s_not_allowed table (aim s x l) ≡ simple_with name v)
      → simple_at s name table x a ≡ simple_with name t
  named_right x a t d h = simple_is s name (λ l. of_aim name s_not_allowed table (aim s x l)) d h

  is_named : (m : Leaf) → name m ≡ simple_with name (leaf m)
  unfolding simple_with
  is_named m = refl

  -- what is filled in along an order is right
  pub simples_right : {ds : List Definition} → IsOrder s ds → IsFilled s (simple_at s name table) table ds → (d : Definition) → Contains ds d
      → IsRight s (simple_with name) table d
  simples_right o f = filled_right (Simple L) s (simple_with name) name s_not_allowed is_named table (simple_at s name table) named_right o f

  -- so is the simple form of a body, if the table is right for the definitions that it mentions
  pub simple_right : (P : Definition → Type 0) → ((d : Definition) → P d → IsRight s (simple_with name) table d) → (x : Place) (a : Tree Point)
      → ((l : Point) → LeafIn l a → IsSettled P (aim s x l)) → (t : Tree Leaf) → Unfolds s x a t → simple_at s name table x a ≡ simple_with name t
  simple_right P right x a =
      body_right (Simple L) s (simple_with name) name s_not_allowed is_named table (simple_at s name table) named_right P right x a

-- ---- by numbers

module _ (s : Schema) (ds : List Definition) (ls : List Leaf) (g : Graph) (is : IsGraphOf s ds ls g) where
  abbrev pub leaf_name : Leaf → Simple ℕ
  leaf_name m = s_leaf (leaf_number ls m)

  simple_at_spot : (values : ℕ → Simple ℕ) (p : Spot) → IsSpotBelow (length ds) (length ls) p
      → of_aim leaf_name s_not_allowed (table_of s ds ls g is values) (aim_at ds ls p) ≡ of_spot (λ k. s_leaf k) values p
  simple_at_spot values (at_element k) h =
      let m = found ls k h in
      ap (λ o. of_aim leaf_name s_not_allowed (table_of s ds ls g is values) (element_aim o)) m.1
      ∙ ap s_leaf (leaf_number_is ls is.elements_apart k m.0 m.1)
  simple_at_spot values (at_definition j) h =
      let d = found ds j h in
      ap (λ o. of_aim leaf_name s_not_allowed (table_of s ds ls g is values) (definition_aim o)) d.1
      ∙ ap values (number_is ds is.definitions_apart j d.0 d.1)

  -- the simple form of a body by numbers equals that by definitions
  pub simple_resolved : (values : ℕ → Simple ℕ) {x : Place} {a : Tree Point} {r : Tree Spot} → IsResolved s ds ls x a r
      → simple_at s leaf_name (table_of s ds ls g is values) x a ≡ spot_simple values r
  simple_resolved values {x} {a} {r} e =
      let G = of_aim leaf_name s_not_allowed (table_of s ds ls g is values) in
      sym (simple_same (aim s x) G (λ l. G (aim s x l)) a (λ l i. refl)) ∙ ap (simple_with G) e.same
      ∙ simple_same (aim_at ds ls) G (of_spot (λ k. s_leaf k) values) r (λ p i. simple_at_spot values p (e.below p i))

-- only the entries of mentioned definitions matter
spot_same : (v w : ℕ → Simple ℕ) (r : Tree Spot) → ((i : ℕ) → LeafIn (at_definition i) r → v i ≡ w i) → (p : Spot) → LeafIn p r
    → of_spot (λ k. s_leaf k) v p ≡ of_spot (λ k. s_leaf k) w p
spot_same v w r h (at_element k) i = refl
spot_same v w r h (at_definition j) i = h j i

pub simple_reads : ReadsMentions spot_simple
simple_reads v w r h =
    sym (simple_same (λ p. p) (of_spot (λ k. s_leaf k) v) (of_spot (λ k. s_leaf k) v) r (λ p i. refl))
    ∙ simple_same (λ p. p) (of_spot (λ k. s_leaf k) v) (of_spot (λ k. s_leaf k) w) r (spot_same v w r h)

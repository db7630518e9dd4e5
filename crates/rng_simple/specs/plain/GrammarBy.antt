-- Which grammar the numbers of a graph make as the simple form of its schema.
use Rattle.std.specs.Prelude.{◌≡◌, ◌↔◌, ℕ, List, length, slice_get, slice_index_or, Some, Contains}
use Rattle.rng_model.specs.names.Names.{NameClass}
use Rattle.rng_model.specs.simple.Tree.{Tree, empty, Simple, s_leaf, as_tree}
use Rattle.rng_model.specs.simple.Grammar.{Grammar}
use Rattle.rng_model.specs.simple.Leaves.{LeafIn, AreLeavesBelow}
use Rattle.rng_simple.specs.plain.InTwos.{nested}
use Rattle.rng_simple.specs.plain.Graph.{Spot, Graph, of_spot, IsFilledBy}
use Rattle.rng_simple.specs.plain.Renamed.{simple_renamed}
use Rattle.rng_simple.specs.plain.SimpleWith.{simple_with}

-- the simple form of a body, given those of the definitions; an element is a leaf with its number
abbrev pub spot_simple : (ℕ → Simple ℕ) → Tree Spot → Simple ℕ
spot_simple table r = simple_with (of_spot (λ k. s_leaf k) table) r

-- the simple form of the body of an element, by its number
abbrev pub content_simple : Graph → (ℕ → Simple ℕ) → ℕ → Simple ℕ
content_simple g values k = spot_simple values (slice_index_or g.contents k empty)

-- a number that is a leaf of the first tree, or of the body of a number so reached
pub data IsNumberReached (first : Simple ℕ) (body : ℕ → Simple ℕ) : ℕ → Type 0 where
  in_first : {k : ℕ} → LeafIn k (as_tree first) → IsNumberReached first body k
  in_body : {j k : ℕ} → IsNumberReached first body j → LeafIn k (as_tree (body j)) → IsNumberReached first body k

-- The elements of the grammar are those in `seen`, by their numbers in the graph: exactly those that the start reaches
-- through simple forms, each once, with their name classes nested, and with the simple forms of the start and of the
-- bodies.
pub record IsGrammarBy (classes : List NameClass) (g : Graph) (values : ℕ → Simple ℕ) (seen : List ℕ) (h : Grammar) : Type 0 where
  pub reached : (k : ℕ) → IsNumberReached (values 0) (content_simple g values) k ↔ Contains seen k
  pub distinct : (i j k : ℕ) → slice_get seen i ≡ Some k → slice_get seen j ≡ Some k → i ≡ j
  pub count : length seen ≡ length h.elements
  pub start_below : AreLeavesBelow (length seen) (as_tree h.start)
  pub start : simple_renamed (λ i. slice_index_or seen i 0) h.start ≡ values 0
  pub below : (i : ℕ) (e : NameClass × Simple ℕ) → slice_get h.elements i ≡ Some e → AreLeavesBelow (length seen) (as_tree e.1)
  pub class : (i k : ℕ) (e : NameClass × Simple ℕ) (c : NameClass) → slice_get seen i ≡ Some k → slice_get h.elements i ≡ Some e
      → slice_get classes k ≡ Some c → e.0 ≡ nested c
  pub body : (i k : ℕ) (e : NameClass × Simple ℕ) → slice_get seen i ≡ Some k → slice_get h.elements i ≡ Some e
      → simple_renamed (λ n. slice_index_or seen n 0) e.1 ≡ content_simple g values k

-- The grammar is made of the graph: along this order the definitions have these simple forms, and the grammar consists
-- of those of the start and of the reached elements, up to numbering.
pub record IsMadeOf (classes : List NameClass) (g : Graph) (order : List ℕ) (h : Grammar) : Type 0 where
  pub values : ℕ → Simple ℕ
  pub filled : IsFilledBy g (spot_simple values) values order
  pub seen : List ℕ
  pub grammar : IsGrammarBy classes g values seen h

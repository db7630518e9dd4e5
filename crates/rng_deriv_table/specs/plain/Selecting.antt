-- A part of a table of patterns, copied into a table of its own.
use Rattle.std.specs.Prelude.{◌≡◌, ◌⊎◌, ℕ, ◌<◌, ◌≤◌, List, [], ◌∷◌, length, map, slice_index_or, Bool, true, false, All}
use Rattle.std.specs.List.{Contains}
use Rattle.rng_model.specs.simple.Table.{Table}
use Rattle.rng_deriv_table.specs.views.Node.{Node}
use Rattle.rng_deriv_table.specs.views.Node as node
use Rattle.rng_deriv_table.specs.views.Trees.{tree_of}
use Rattle.rng_deriv_table.specs.declared.pattern.PatternNumber.{PatternNumber}

-- ---- nodes

-- the numbers of the parts of the pattern
abbrev pub parts_of : Node → List ℕ
parts_of node.not_allowed = []
parts_of node.empty = []
parts_of node.text = []
parts_of (node.choice ms) = ms
parts_of (node.group a b) = a ∷ b ∷ []
parts_of (node.interleave a b) = a ∷ b ∷ []
parts_of (node.one_or_more a) = a ∷ []
parts_of (node.element e) = []
parts_of (node.attribute a) = []
parts_of (node.data_at d) = []

-- the pattern with other numbers for its parts
abbrev pub renumbered : (ℕ → ℕ) → Node → Node
renumbered f node.not_allowed = node.not_allowed
renumbered f node.empty = node.empty
renumbered f node.text = node.text
renumbered f (node.choice ms) = node.choice (map f ms)
renumbered f (node.group a b) = node.group (f a) (f b)
renumbered f (node.interleave a b) = node.interleave (f a) (f b)
renumbered f (node.one_or_more a) = node.one_or_more (f a)
renumbered f (node.element e) = node.element e
renumbered f (node.attribute a) = node.attribute a
renumbered f (node.data_at d) = node.data_at d

-- the pattern of this number
abbrev pub node_at : List Node → ℕ → Node
node_at ns i = slice_index_or ns i node.not_allowed

-- ---- marks

abbrev pub IsMarked : List Bool → ℕ → Type 0
IsMarked marks i = slice_index_or marks i false ≡ true

-- these numbers are marked in addition to the marks that are there
pub record Marks (old new : List Bool) (numbers : List ℕ) : Type 0 where
  pub long : length new ≡ length old
  pub stay : (k : ℕ) → IsMarked old k → IsMarked new k
  pub done : All (IsMarked new) numbers
  pub only : (k : ℕ) → IsMarked new k → Contains numbers k ⊎ IsMarked old k

-- the parts of a marked pattern are marked, if its number is this one or greater
abbrev pub AreClosedFrom : ℕ → List Node → List Bool → Type 0
AreClosedFrom low ns marks = (i : ℕ) → low ≤ i → IsMarked marks i → All (IsMarked marks) (parts_of (node_at ns i))

-- marks on some of the patterns, and on all their parts
pub record AreClosed (ns : List Node) (marks : List Bool) : Type 0 where
  pub long : length marks ≡ length ns
  pub closed : AreClosedFrom 0 ns marks

-- ---- the copy

-- the new number of a number
abbrev pub given_for : List PatternNumber → ℕ → ℕ
given_for given i = (slice_index_or given i (record { 0 = 0 })).0

-- the second table has the marked patterns among the first ones of the first table, in their order
pub record AreCopied (ns : List Node) (marks : List Bool) (ms : List Node) (given : List PatternNumber) : Type 0 where
  pub inside : (i : ℕ) → i < length given → IsMarked marks i → given_for given i < length ms
  pub rising : (i j : ℕ) → i < j → j < length given → IsMarked marks i → IsMarked marks j → given_for given i < given_for given j
  pub each : (k : ℕ) → k < length ms
      → (i : ℕ) × (i < length given) × IsMarked marks i × (given_for given i ≡ k) × (node_at ms k ≡ renumbered (given_for given) (node_at ns i))
  pub same : (t : Table) (i : ℕ) → i < length given → IsMarked marks i → tree_of t ms (given_for given i) ≡ tree_of t ns i

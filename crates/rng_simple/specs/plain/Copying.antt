-- Rows copied into the tables of a grammar, with new numbers for rows and elements.
use Rattle.std.specs.Prelude.{◌≡◌, ℕ, ◌<◌, ◌≤◌, ⊤, List, [], ◌∷◌, ◌++◌, length, slice_get, slice_index_or, Some, Bool, true, All, Contains}
use Rattle.rng_model.specs.simple.Tree as tree
use Rattle.rng_model.specs.simple.Tree.{as_tree}
use Rattle.rng_model.specs.simple.Leaves.{AreLeavesBelow}
use Rattle.rng_model.specs.simple.Table.{tree_over}
use Rattle.rng_model.specs.simple.TableRules.{AreChildrenBelow, Falls, IsLeafListed, IsClassPaired}
use Rattle.rng_model.specs.simple.Table as tables
use Rattle.rng_model.specs.declared.simple.Simple.{Simple}
use Rattle.rng_simple.specs.plain.Renamed.{simple_renamed}
use Rattle.rng_simple.specs.views.Rows.{Labels, row_tree, tree_at}
use Rattle.rng_simple.specs.plain.Worklist.{AreDistinctNumbers}
use Rattle.rng_simple.specs.declared.rows.Row.{Row}
use Rattle.rng_simple.specs.declared.rows.Row.TheVariants as row

-- the tree of the pattern with a number
abbrev pub tree_numbered : List Simple → ℕ → tree.Simple ℕ
tree_numbered ps n = slice_index_or (tables.trees ps) n tree.s_not_allowed

-- the new number of a row
abbrev pub place_of : List ℕ → ℕ → ℕ
place_of places a = slice_index_or places a 0

-- the element with a new number
abbrev pub listed_at : List ℕ → ℕ → ℕ
listed_at listed n = slice_index_or listed n 0

-- each child has this property
abbrev pub AllChildren : (ℕ → Type 0) → Row → Type 0
AllChildren P row.NotAllowed = ⊤
AllChildren P row.Empty = ⊤
AllChildren P row.Text = ⊤
AllChildren P (row.Element k) = ⊤
AllChildren P (row.Attribute c a) = P a
AllChildren P (row.List a) = P a
AllChildren P (row.Data d) = ⊤
AllChildren P (row.DataExcept d a) = P a
AllChildren P (row.Value v) = ⊤
AllChildren P (row.OneOrMore a) = P a
AllChildren P (row.Choice a b) = P a × P b
AllChildren P (row.Group a b) = P a × P b
AllChildren P (row.Interleave a b) = P a × P b

-- the element of a row
abbrev pub own_elements : Row → List ℕ
own_elements row.NotAllowed = []
own_elements row.Empty = []
own_elements row.Text = []
own_elements (row.Element k) = k ∷ []
own_elements (row.Attribute c a) = []
own_elements (row.List a) = []
own_elements (row.Data d) = []
own_elements (row.DataExcept d a) = []
own_elements (row.Value v) = []
own_elements (row.OneOrMore a) = []
own_elements (row.Choice a b) = []
own_elements (row.Group a b) = []
own_elements (row.Interleave a b) = []

-- a row; if it is an element, its element has this number
abbrev pub numbered_row : ℕ → Row → Row
numbered_row n row.NotAllowed = row.NotAllowed
numbered_row n row.Empty = row.Empty
numbered_row n row.Text = row.Text
numbered_row n (row.Element k) = row.Element n
numbered_row n (row.Attribute c a) = row.Attribute c a
numbered_row n (row.List a) = row.List a
numbered_row n (row.Data d) = row.Data d
numbered_row n (row.DataExcept d a) = row.DataExcept d a
numbered_row n (row.Value v) = row.Value v
numbered_row n (row.OneOrMore a) = row.OneOrMore a
numbered_row n (row.Choice a b) = row.Choice a b
numbered_row n (row.Group a b) = row.Group a b
numbered_row n (row.Interleave a b) = row.Interleave a b

-- the pattern is the row with new numbers
pub record IsRowCopy (l : Labels) (places listed : List ℕ) (r : Row) (p : Simple) : Type 0 where
  pub tree : (of : ℕ → tree.Simple ℕ) → tree_over (λ id. of id.0) p ≡ row_tree l (λ a. of (place_of places a)) (numbered_row (length listed) r)
  pub below : (m : ℕ) → AllChildren (λ a. place_of places a < m) r → AreChildrenBelow m p
  pub leaf : IsLeafListed (length (listed ++ own_elements r)) p
  pub paired : IsClassPaired p

-- the pattern with this number is the tree, except for the numbers of elements
pub record IsCopied (ps : List Simple) (listed : List ℕ) (place : ℕ) (t : tree.Simple ℕ) : Type 0 where
  pub there : place < length ps
  pub below : AreLeavesBelow (length listed) (as_tree (tree_numbered ps place))
  pub is : simple_renamed (listed_at listed) (tree_numbered ps place) ≡ t

-- The pattern with this number is the row, over the trees of the patterns of its children, which come before it. If the
-- row is an element, its number is in the list.
pub record IsRowTree (l : Labels) (ps : List Simple) (places listed : List ℕ) (i : ℕ) (r : Row) (place : ℕ) : Type 0 where
  pub number : ℕ
  pub tree : tree_numbered ps place ≡ row_tree l (λ a. tree_numbered ps (place_of places a)) (numbered_row number r)
  pub element : (k : ℕ) → r ≡ row.Element k → slice_get listed number ≡ Some k
  pub children : AllChildren (λ a. (a < i) × (place_of places a < length ps)) r

-- The reached rows among the first i are copied, in their order, and their elements are listed.
pub record AreCopied (l : Labels) (rs : List Row) (reached : List Bool) (i : ℕ) (places : List ℕ) (ps : List Simple) (listed : List ℕ) : Type 0 where
  pub long : length places ≡ i
  pub falls : Falls ps
  pub leaves : All (IsLeafListed (length listed)) ps
  pub paired : All IsClassPaired ps
  pub copied : (j : ℕ) → j < i → slice_get reached j ≡ Some true → IsCopied ps listed (place_of places j) (tree_at l rs j)
  pub distinct : AreDistinctNumbers listed
  pub from : (k : ℕ) → Contains listed k → (j : ℕ) × (j < i) × (slice_get reached j ≡ Some true) × (slice_get rs j ≡ Some (row.Element k))
  pub all : (j k : ℕ) → j < i → slice_get reached j ≡ Some true → slice_get rs j ≡ Some (row.Element k) → Contains listed k
  -- patterns are only made for rows
  pub short : length ps ≤ i
  pub used : (m : ℕ) → m < length ps → (j : ℕ) × (j < i) × (slice_get reached j ≡ Some true) × (place_of places j ≡ m)
  pub made : (j : ℕ) (r : Row) → j < i → slice_get reached j ≡ Some true → slice_get rs j ≡ Some r → IsRowTree l ps places listed i r (place_of places j)

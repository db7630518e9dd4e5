-- A table of numbered patterns, and the trees that its rows represent.
use Rattle.std.specs.Prelude.{◌≡◌, ℕ, ◌<◌, ⊤, List, [], ◌∷◌, ◌++◌, length, fold, slice_get, slice_index_or, Some}
use Rattle.rng_model.specs.names.Names.{NameClass, any_name}
use Rattle.rng_model.specs.simple.Tree.{Datatype, choice, group, interleave}
use Rattle.rng_simple.specs.plain.SimpleBodies.{IsPlainBody}
use Rattle.rng_model.specs.simple.Tree.{Simple, s_not_allowed, s_empty, s_text, s_leaf, s_attribute, s_list, s_data, s_data_except, s_value, s_one_or_more, s_joined}
use Rattle.rng_simple.specs.declared.rows.Row.{Row}
use Rattle.rng_simple.specs.declared.rows.Row.TheVariants as row

-- the labels of rows: name classes in simple form, datatypes, and values, each a datatype and a text
pub record Labels : Type 0 where
  pub classes : List NameClass
  pub datatypes : List Datatype
  pub values : List (Datatype × List ℕ)

-- a default for a missing datatype
abbrev pub no_datatype : Datatype
no_datatype = record { library = []; name = []; parameters = [] }

abbrev pub class_at : Labels → ℕ → NameClass
class_at l c = slice_index_or l.classes c any_name

abbrev pub datatype_at : Labels → ℕ → Datatype
datatype_at l d = slice_index_or l.datatypes d no_datatype

abbrev pub value_at : Labels → ℕ → Datatype × List ℕ
value_at l v = slice_index_or l.values v (no_datatype, [])

-- a row as a tree, given the trees of its children
abbrev pub row_tree : Labels → (ℕ → Simple ℕ) → Row → Simple ℕ
row_tree l of row.NotAllowed = s_not_allowed
row_tree l of row.Empty = s_empty
row_tree l of row.Text = s_text
row_tree l of (row.Element k) = s_leaf k
row_tree l of (row.Attribute c a) = s_attribute (class_at l c) (of a)
row_tree l of (row.List a) = s_list (of a)
row_tree l of (row.Data d) = s_data (datatype_at l d)
row_tree l of (row.DataExcept d a) = s_data_except (datatype_at l d) (of a)
row_tree l of (row.Value v) = s_value (value_at l v).0 (value_at l v).1
row_tree l of (row.OneOrMore a) = s_one_or_more (of a)
row_tree l of (row.Choice a b) = s_joined choice (of a) (of b)
row_tree l of (row.Group a b) = s_joined group (of a) (of b)
row_tree l of (row.Interleave a b) = s_joined interleave (of a) (of b)

abbrev pub tree_in : List (Simple ℕ) → ℕ → Simple ℕ
tree_in ts i = slice_index_or ts i s_not_allowed

abbrev pub with_tree : Labels → List (Simple ℕ) → Row → List (Simple ℕ)
with_tree l ts r = ts ++ row_tree l (tree_in ts) r ∷ []

-- the tree of each row, made of the trees of earlier rows
unfoldable pub trees : Labels → List Row → List (Simple ℕ)
trees l rs = fold (with_tree l) [] rs

-- the tree of the row with this number
abbrev pub tree_at : Labels → List Row → ℕ → Simple ℕ
tree_at l rs = tree_in (trees l rs)

-- each child is below n
abbrev pub AreChildrenBelow : ℕ → Row → Type 0
AreChildrenBelow n row.NotAllowed = ⊤
AreChildrenBelow n row.Empty = ⊤
AreChildrenBelow n row.Text = ⊤
AreChildrenBelow n (row.Element k) = ⊤
AreChildrenBelow n (row.Attribute c a) = a < n
AreChildrenBelow n (row.List a) = a < n
AreChildrenBelow n (row.Data d) = ⊤
AreChildrenBelow n (row.DataExcept d a) = a < n
AreChildrenBelow n (row.Value v) = ⊤
AreChildrenBelow n (row.OneOrMore a) = a < n
AreChildrenBelow n (row.Choice a b) = (a < n) × (b < n)
AreChildrenBelow n (row.Group a b) = (a < n) × (b < n)
AreChildrenBelow n (row.Interleave a b) = (a < n) × (b < n)

-- each label exists
abbrev pub IsLabelled : Labels → Row → Type 0
IsLabelled l row.NotAllowed = ⊤
IsLabelled l row.Empty = ⊤
IsLabelled l row.Text = ⊤
IsLabelled l (row.Element k) = ⊤
IsLabelled l (row.Attribute c a) = c < length l.classes
IsLabelled l (row.List a) = ⊤
IsLabelled l (row.Data d) = d < length l.datatypes
IsLabelled l (row.DataExcept d a) = d < length l.datatypes
IsLabelled l (row.Value v) = v < length l.values
IsLabelled l (row.OneOrMore a) = ⊤
IsLabelled l (row.Choice a b) = ⊤
IsLabelled l (row.Group a b) = ⊤
IsLabelled l (row.Interleave a b) = ⊤

-- the children of each row come before it
abbrev pub Falls : List Row → Type 0
Falls rs = (i : ℕ) (r : Row) → slice_get rs i ≡ Some r → AreChildrenBelow i r

-- the rows are distinct
abbrev pub AreDistinctRows : List Row → Type 0
AreDistinctRows rs = (i j : ℕ) (r : Row) → slice_get rs i ≡ Some r → slice_get rs j ≡ Some r → i ≡ j

-- the labels of each row exist
abbrev pub AreLabelled : Labels → List Row → Type 0
AreLabelled l rs = (i : ℕ) (r : Row) → slice_get rs i ≡ Some r → IsLabelled l r

-- the first row is empty, children come before their parents, labels exist, and the tree of each row is in the simple
-- syntax
pub record AreRows (l : Labels) (rs : List Row) : Type 0 where
  pub first : slice_get rs 0 ≡ Some row.Empty
  pub falls : Falls rs
  pub labelled : AreLabelled l rs
  pub simple : (i : ℕ) → IsPlainBody (tree_at l rs i)

-- the new labels begin with the old ones
pub record AreMoreLabels (old new : Labels) : Type 0 where
  pub classes : List NameClass
  pub datatypes : List Datatype
  pub values : List (Datatype × List ℕ)
  pub more_classes : new.classes ≡ old.classes ++ classes
  pub more_datatypes : new.datatypes ≡ old.datatypes ++ datatypes
  pub more_values : new.values ≡ old.values ++ values

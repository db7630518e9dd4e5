-- A simple grammar in tables, and the trees that it represents.
use Rattle.std.specs.Prelude.{◌≡◌, ℕ, ◌<◌, List, [], ◌∷◌, ◌++◌, length, fold, map, slice_index_or, string_bytes}
use Rattle.rng_model.specs.simple.Tree as tree
use Rattle.rng_model.specs.simple.Tree.{choice, group, interleave}
use Rattle.rng_model.specs.simple.Grammar.{Grammar}
use Rattle.rng_model.specs.names.NameViews.{class_of}
use Rattle.rng_model.specs.datatypes.DatatypeViews.{datatype_of}
use Rattle.rng_model.specs.schema.Patterns.{without_parameters}
use Rattle.rng_model.specs.declared.name.NameClass.{NameClass}
use Rattle.rng_model.specs.declared.simple.PatternId.{PatternId}
use Rattle.rng_model.specs.declared.simple.Simple.{Simple}
use Rattle.rng_model.specs.declared.simple.Simple.TheVariants as simple
use Rattle.rng_model.specs.declared.type_set.TypeSet.{TypeSet}

-- the patterns, the elements (a name class and the position of a body), where to start, and the set of datatypes that the
-- patterns name
pub record Table : Type 0 where
  pub patterns : List Simple
  pub elements : List (NameClass × PatternId)
  pub start : PatternId
  pub types : TypeSet

-- a pattern as a tree, made of the trees of its children
abbrev pub tree_over : (PatternId → tree.Simple ℕ) → Simple → tree.Simple ℕ
tree_over of simple.NotAllowed = tree.s_not_allowed
tree_over of simple.Empty = tree.s_empty
tree_over of simple.Text = tree.s_text
tree_over of (simple.Element e) = tree.s_leaf e.0
tree_over of (simple.Attribute class body) = tree.s_attribute (class_of class.value) (of body)
tree_over of (simple.List body) = tree.s_list (of body)
tree_over of (simple.Data datatype) = tree.s_data (datatype_of datatype.value)
tree_over of (simple.DataExcept datatype except) = tree.s_data_except (datatype_of datatype.value) (of except)
tree_over of (simple.Value value) =
    tree.s_value (without_parameters (string_bytes value.value.library) (string_bytes value.value.name)) (string_bytes value.value.text)
tree_over of (simple.OneOrMore body) = tree.s_one_or_more (of body)
tree_over of (simple.Group a b) = tree.s_joined group (of a) (of b)
tree_over of (simple.Interleave a b) = tree.s_joined interleave (of a) (of b)
tree_over of (simple.Choice a b) = tree.s_joined choice (of a) (of b)

abbrev pub tree_among : List (tree.Simple ℕ) → PatternId → tree.Simple ℕ
tree_among ts id = slice_index_or ts id.0 tree.s_not_allowed

abbrev pub with_tree : List (tree.Simple ℕ) → Simple → List (tree.Simple ℕ)
with_tree ts p = ts ++ tree_over (tree_among ts) p ∷ []

-- the trees of all patterns, each made of those before it
unfoldable pub trees : List Simple → List (tree.Simple ℕ)
trees ps = fold with_tree [] ps

-- the tree of a pattern of the table
abbrev pub tree_at : List Simple → PatternId → tree.Simple ℕ
tree_at ps = tree_among (trees ps)

-- equal patterns have the same number
abbrev pub AreToldApart : Table → Type 0
AreToldApart t = (i j : ℕ) → i < length t.patterns → j < length t.patterns
    → tree_at t.patterns (record { 0 = i }) ≡ tree_at t.patterns (record { 0 = j }) → i ≡ j

-- the grammar that a table represents
abbrev pub grammar_of : Table → Grammar
grammar_of t = record {
  start = tree_at t.patterns t.start;
  elements = map (λ e. (class_of e.0, tree_at t.patterns e.1)) t.elements;
}

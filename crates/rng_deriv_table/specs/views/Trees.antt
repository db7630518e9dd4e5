-- The trees that the patterns of a table represent, over the tables of a grammar.
use Rattle.std.specs.Prelude.{ℕ, List, [], ◌∷◌, ◌++◌, fold, slice_get, slice_index_or, Option, Some, None, string_bytes}
use Rattle.rng_model.specs.names.Names.{some_of}
use Rattle.rng_model.specs.simple.Tree as tree
use Rattle.rng_model.specs.simple.Table.{Table, tree_at}
use Rattle.rng_model.specs.names.NameViews.{class_of}
use Rattle.rng_model.specs.datatypes.DatatypeViews.{datatype_of}
use Rattle.rng_model.specs.schema.Patterns.{without_parameters}
use Rattle.rng_model.specs.declared.simple.Simple.{Simple}
use Rattle.rng_model.specs.declared.simple.Simple.TheVariants as simple
use Rattle.rng_deriv_table.specs.views.Node.{Node}
use Rattle.rng_deriv_table.specs.views.Node as node

-- an attribute that has no name
abbrev pub no_attribute : tree.Simple ℕ
no_attribute = tree.s_attribute (some_of []) tree.s_not_allowed

-- the attribute that a look-up in the grammar found, or one that has no name
abbrev pub attribute_found : Table → Option Simple → tree.Simple ℕ
attribute_found t None = no_attribute
attribute_found t (Some simple.NotAllowed) = no_attribute
attribute_found t (Some simple.Empty) = no_attribute
attribute_found t (Some simple.Text) = no_attribute
attribute_found t (Some (simple.Element e)) = no_attribute
attribute_found t (Some (simple.Attribute class body)) = tree.s_attribute (class_of class.value) (tree_at t.patterns body)
attribute_found t (Some (simple.List body)) = no_attribute
attribute_found t (Some (simple.Data datatype)) = no_attribute
attribute_found t (Some (simple.DataExcept datatype except)) = no_attribute
attribute_found t (Some (simple.Value value)) = no_attribute
attribute_found t (Some (simple.OneOrMore body)) = no_attribute
attribute_found t (Some (simple.Group a b)) = no_attribute
attribute_found t (Some (simple.Interleave a b)) = no_attribute
attribute_found t (Some (simple.Choice a b)) = no_attribute

-- data that allows no text
abbrev pub no_data : tree.Simple ℕ
no_data = tree.s_list tree.s_not_allowed

-- the list, the data or the value that a look-up in the grammar found, or data that allows no text
abbrev pub data_found : Table → Option Simple → tree.Simple ℕ
data_found t None = no_data
data_found t (Some simple.NotAllowed) = no_data
data_found t (Some simple.Empty) = no_data
data_found t (Some simple.Text) = no_data
data_found t (Some (simple.Element e)) = no_data
data_found t (Some (simple.Attribute class body)) = no_data
data_found t (Some (simple.List body)) = tree.s_list (tree_at t.patterns body)
data_found t (Some (simple.Data datatype)) = tree.s_data (datatype_of datatype.value)
data_found t (Some (simple.DataExcept datatype except)) = tree.s_data_except (datatype_of datatype.value) (tree_at t.patterns except)
data_found t (Some (simple.Value value)) =
    tree.s_value (without_parameters (string_bytes value.value.library) (string_bytes value.value.name)) (string_bytes value.value.text)
data_found t (Some (simple.OneOrMore body)) = no_data
data_found t (Some (simple.Group a b)) = no_data
data_found t (Some (simple.Interleave a b)) = no_data
data_found t (Some (simple.Choice a b)) = no_data

-- a choice of a first member and others
abbrev pub choice_from : (ℕ → tree.Simple ℕ) → ℕ → List ℕ → tree.Simple ℕ
choice_from of m [] = of m
choice_from of m (n ∷ ms) = tree.s_joined tree.choice (of m) (choice_from of n ms)

-- a choice of members; without members it allows nothing
abbrev pub choice_over : (ℕ → tree.Simple ℕ) → List ℕ → tree.Simple ℕ
choice_over of [] = tree.s_not_allowed
choice_over of (m ∷ ms) = choice_from of m ms

-- one pattern as a tree, over the trees of its parts
abbrev pub tree_over : Table → (ℕ → tree.Simple ℕ) → Node → tree.Simple ℕ
tree_over t of node.not_allowed = tree.s_not_allowed
tree_over t of node.empty = tree.s_empty
tree_over t of node.text = tree.s_text
tree_over t of (node.choice ms) = choice_over of ms
tree_over t of (node.group a b) = tree.s_joined tree.group (of a) (of b)
tree_over t of (node.interleave a b) = tree.s_joined tree.interleave (of a) (of b)
tree_over t of (node.one_or_more a) = tree.s_one_or_more (of a)
tree_over t of (node.element e) = tree.s_leaf e
tree_over t of (node.attribute a) = attribute_found t (slice_get t.patterns a)
tree_over t of (node.data_at d) = data_found t (slice_get t.patterns d)

abbrev pub tree_in : List (tree.Simple ℕ) → ℕ → tree.Simple ℕ
tree_in ts number = slice_index_or ts number tree.s_not_allowed

abbrev pub with_tree : Table → List (tree.Simple ℕ) → Node → List (tree.Simple ℕ)
with_tree t ts n = ts ++ tree_over t (tree_in ts) n ∷ []

-- the tree of each pattern, made from those before it
unfoldable pub trees : Table → List Node → List (tree.Simple ℕ)
trees t ns = fold (with_tree t) [] ns

-- the tree of the pattern of this number
abbrev pub tree_of : Table → List Node → ℕ → tree.Simple ℕ
tree_of t ns = tree_in (trees t ns)

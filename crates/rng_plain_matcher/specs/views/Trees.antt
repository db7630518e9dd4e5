-- The trees of the code, without their place in memory.
use Rattle.std.specs.Prelude.{ℕ, string_bytes}
use Rattle.rng_model.specs.simple.Tree as tree
use Rattle.rng_model.specs.names.NameViews.{class_of}
use Rattle.rng_model.specs.datatypes.DatatypeViews.{datatype_of}
use Rattle.rng_model.specs.schema.Patterns.{without_parameters}
use Rattle.rng_plain_matcher.specs.declared.tree.Connector.{Connector}
use Rattle.rng_plain_matcher.specs.declared.tree.Connector.TheVariants as connectors
use Rattle.rng_plain_matcher.specs.declared.tree.Tree.{Tree, fold-Tree}
use Rattle.rng_plain_matcher.specs.declared.tree.Tree.TheOpen.{Tree-F}

abbrev pub connector_of : Connector → tree.Connector
connector_of connectors.Choice = tree.choice
connector_of connectors.Group = tree.group
connector_of connectors.Interleave = tree.interleave

-- one level of a tree, with each tree inside already as its view
abbrev pub tree_step : Tree-F (tree.Simple ℕ) → tree.Simple ℕ
tree_step Tree-F.NotAllowed = tree.s_not_allowed
tree_step Tree-F.Empty = tree.s_empty
tree_step Tree-F.Text = tree.s_text
tree_step (Tree-F.Element element) = tree.s_leaf element.0
tree_step (Tree-F.Attribute class body) = tree.s_attribute (class_of class.now) body.value
tree_step (Tree-F.List body) = tree.s_list body.value
tree_step (Tree-F.Data datatype) = tree.s_data (datatype_of datatype.now)
tree_step (Tree-F.DataExcept datatype except) = tree.s_data_except (datatype_of datatype.now) except.value
tree_step (Tree-F.Value value) =
    tree.s_value (without_parameters (string_bytes value.now.library) (string_bytes value.now.name)) (string_bytes value.now.text)
tree_step (Tree-F.OneOrMore body) = tree.s_one_or_more body.value
tree_step (Tree-F.Joined connector first second) = tree.s_joined (connector_of connector) first.value second.value

abbrev pub tree_of : Tree → tree.Simple ℕ
tree_of = fold-Tree (tree.Simple ℕ) tree_step

-- The simple forms of the patterns of a graph, if those of the definitions are rows of a table.
use Rattle.std.specs.Prelude.{ℕ, ◌<◌, List, [], ◌∷◌, slice_index_or, string_bytes}
use Rattle.rng_model.specs.simple.Tree.{Connector, choice, group, interleave, Simple, s_not_allowed, s_empty, s_text, s_leaf, s_data, s_value}
use Rattle.rng_model.specs.schema.Patterns.{without_parameters}
use Rattle.rng_model.specs.datatypes.DatatypeViews.{datatype_of}
use Rattle.rng_model.specs.names.NameViews.{class_of}
use Rattle.rng_simple.specs.plain.InTwos.{nested}
use Rattle.rng_simple.specs.declared.graph.parts.GraphRow.{GraphRow}
use Rattle.rng_simple.specs.declared.graph.parts.GraphRow.TheVariants as row
use Rattle.rng_simple.specs.views.RowTable.{tree_of}
use Rattle.rng_simple.specs.plain.SimpleOf.{attribute_by, except_by, join, list_by, some_of, sort_of}
use Rattle.rng_simple.specs.declared.row_table.RowTable.{RowTable}

-- each of them is below n, and so is 0, which is the default past the end
abbrev pub AreRowsBelow : ℕ → List ℕ → Type 0
AreRowsBelow n rows = (j : ℕ) → slice_index_or rows j 0 < n

-- the trees of definitions with these rows
abbrev pub values_in : RowTable → List ℕ → ℕ → Simple ℕ
values_in t parts j = tree_of t (slice_index_or parts j 0)

-- what is joined already, and the sides after it
abbrev pub joined_simple : Connector → Simple ℕ → List (Simple ℕ) → Simple ℕ
joined_simple k s [] = s
joined_simple k s (u ∷ us) = joined_simple k (join k s u) us

-- the simple form of no members
abbrev pub none_of : Connector → Simple ℕ
none_of choice = s_not_allowed
none_of group = s_empty
none_of interleave = s_empty

-- sides with a connector, nested in twos from the left
abbrev pub all_joined : Connector → List (Simple ℕ) → Simple ℕ
all_joined k us = joined_simple k (none_of k) us

-- the sides of components; no sides are notAllowed
abbrev pub components_joined : Connector → List (Simple ℕ) → Simple ℕ
components_joined k [] = s_not_allowed
components_joined k (u ∷ us) = all_joined k (u ∷ us)

-- the first side; a side that is missing is notAllowed
abbrev pub side : List (Simple ℕ) → Simple ℕ
side us = slice_index_or us 0 s_not_allowed

-- the simple form of the tree of a row, given those of its children and of the definitions
abbrev pub row_simple : (ℕ → Simple ℕ) → GraphRow → List (Simple ℕ) → Simple ℕ
row_simple values row.NotAllowed us = s_not_allowed
row_simple values row.Empty us = s_empty
row_simple values row.Text us = s_text
row_simple values (row.Element k) us = s_leaf k
row_simple values (row.Definition j) us = values j
row_simple values (row.Data d) us = s_data (datatype_of d.now)
row_simple values (row.Value v) us =
    s_value (without_parameters (string_bytes v.now.library) (string_bytes v.now.name)) (string_bytes v.now.text)
row_simple values (row.Attribute c) us = attribute_by (sort_of (side us)) (nested (class_of c.now)) (side us)
row_simple values row.List us = list_by (sort_of (side us)) (side us)
row_simple values (row.DataExcept d) us = except_by (sort_of (side us)) (datatype_of d.now) (side us)
row_simple values row.Mixed us = join interleave (side us) s_text
row_simple values row.Optional us = join choice (side us) s_empty
row_simple values row.ZeroOrMore us = join choice (some_of (side us)) s_empty
row_simple values row.OneOrMore us = some_of (side us)
row_simple values (row.Group n) us = all_joined group us
row_simple values (row.Interleave n) us = all_joined interleave us
row_simple values (row.Choice n) us = all_joined choice us

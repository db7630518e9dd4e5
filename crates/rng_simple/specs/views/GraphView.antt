-- Views of the parts of a graph, without their place in memory. A list of rows is viewed as the trees that it is made of.
use Rattle.std.specs.Prelude.{ℕ, List, [], ◌∷◌, map, slice_index_or, string_bytes}
use Rattle.std.specs.List.{fold}
use Rattle.std.proofs.Common.{Vec, Global}
use Rattle.rng_model.specs.names.Names as names
use Rattle.rng_model.specs.simple.Tree.{Tree, not_allowed, empty, text, leaf, attribute, list, data_of, data_except, value, mixed, optional, zero_or_more, one_or_more}
use Rattle.rng_model.specs.simple.Tree.{joined, Trees, no_trees, tree_and, Connector, choice, group, interleave}
use Rattle.rng_model.specs.schema.Patterns.{without_parameters}
use Rattle.rng_model.specs.schema.Schema.{nested_from}
use Rattle.rng_model.specs.datatypes.DatatypeViews.{datatype_of}
use Rattle.rng_model.specs.names.NameViews.{class_of}
use Rattle.rng_model.specs.views.ReplacedLists.{replaced}
use Rattle.rng_simple.specs.plain.Graph.{Spot, at_element, at_definition, Graph}
use Rattle.rng_simple.specs.declared.graph.parts.GraphRow.{GraphRow}
use Rattle.rng_simple.specs.declared.graph.parts.GraphRow.TheVariants as row
use Rattle.rng_simple.specs.declared.graph.parts.GraphBody.{GraphBody}
use Rattle.rng_simple.specs.declared.graph.parts.GraphBody.TheVariants as body
use Rattle.rng_simple.specs.declared.graph.parts.Graph as declared

abbrev pub trees_of : {L : Type 0} → List (Tree L) → Trees L
trees_of [] = no_trees
trees_of (a ∷ rest) = tree_and a (trees_of rest)

-- a list of members with a connector: one member alone is itself; no members change nothing among others
abbrev pub members : {L : Type 0} → Connector → List (Tree L) → Tree L
members choice [] = not_allowed
members group [] = empty
members interleave [] = empty
members k (a ∷ []) = a
members k (a ∷ (b ∷ ts)) = joined k a b (trees_of ts)

-- how many of the last trees a row takes as its children
abbrev pub arity : GraphRow → ℕ
arity row.NotAllowed = 0
arity row.Empty = 0
arity row.Text = 0
arity (row.Element k) = 0
arity (row.Definition j) = 0
arity (row.Data d) = 0
arity (row.Value v) = 0
arity (row.Attribute c) = 1
arity row.List = 1
arity (row.DataExcept d) = 1
arity row.Mixed = 1
arity row.Optional = 1
arity row.ZeroOrMore = 1
arity row.OneOrMore = 1
arity (row.Group n) = n
arity (row.Interleave n) = n
arity (row.Choice n) = n

-- the only child; a child that is missing is notAllowed
abbrev pub child : {L : Type 0} → List (Tree L) → Tree L
child ts = slice_index_or ts 0 not_allowed

-- the tree of a row with these children
abbrev pub row_tree : GraphRow → List (Tree Spot) → Tree Spot
row_tree row.NotAllowed ts = not_allowed
row_tree row.Empty ts = empty
row_tree row.Text ts = text
row_tree (row.Element k) ts = leaf (at_element k)
row_tree (row.Definition j) ts = leaf (at_definition j)
row_tree (row.Data d) ts = data_of (datatype_of d.now)
row_tree (row.Value v) ts = value (without_parameters (string_bytes v.now.library) (string_bytes v.now.name)) (string_bytes v.now.text)
row_tree (row.Attribute c) ts = attribute (class_of c.now) (child ts)
row_tree row.List ts = list (child ts)
row_tree (row.DataExcept d) ts = data_except (datatype_of d.now) (child ts)
row_tree row.Mixed ts = mixed (child ts)
row_tree row.Optional ts = optional (child ts)
row_tree row.ZeroOrMore ts = zero_or_more (child ts)
row_tree row.OneOrMore ts = one_or_more (child ts)
row_tree (row.Group n) ts = members group ts
row_tree (row.Interleave n) ts = members interleave ts
row_tree (row.Choice n) ts = members choice ts

abbrev pub with_row : List (Tree Spot) → GraphRow → List (Tree Spot)
with_row ts r = replaced (arity r) (row_tree r) ts

-- the trees of a list of rows, in order
unfoldable pub forest : List GraphRow → List (Tree Spot)
forest rows = fold with_row [] rows

-- the tree of rows that are one pattern
abbrev pub graph_pattern_of : Vec GraphRow Global → Tree Spot
graph_pattern_of rows = child (forest rows.items)

-- trees with a connector, nested in twos from the left; no trees, which no definition has, are notAllowed
abbrev pub combined : {L : Type 0} → Connector → List (Tree L) → Tree L
combined k [] = not_allowed
combined k (a ∷ ts) = nested_from k a ts

abbrev pub graph_body_of : GraphBody → Tree Spot
graph_body_of (body.Choice rows) = combined choice (forest rows.items)
graph_body_of (body.Interleave rows) = combined interleave (forest rows.items)

abbrev pub graph_of : declared.Graph → Graph
graph_of g = record { bodies = map graph_body_of g.bodies.items; contents = map (λ e. graph_pattern_of e.content) g.elements.items }

-- the name classes of the elements, in order
abbrev pub classes_of : declared.Graph → List names.NameClass
classes_of g = map (λ e. class_of e.class.now) g.elements.items

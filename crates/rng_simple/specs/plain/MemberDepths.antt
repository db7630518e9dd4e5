-- Depths member by member, without building the nested form. Private contracts cite them.
use Rattle.std.specs.Prelude.{◌⊎◌, ℕ, ◌<◌, max, List, [], ◌∷◌, slice_index_or}
use Rattle.rng_model.specs.names.Names.{NameClasses, no_classes, class_and}
use Rattle.rng_model.specs.simple.Leaves.{class_depth, depth_limit}
use Rattle.rng_model.specs.names.NameViews.{class_of}
use Rattle.rng_simple.specs.plain.InTwos.{nested}
use Rattle.rng_simple.specs.plain.DepthWith.{cut_off, one_more, nested_depth, depth_with}
use Rattle.rng_simple.specs.plain.Graph.{Spot, at_element, at_definition, of_spot}
use Rattle.rng_simple.specs.views.GraphView.{graph_pattern_of}
use Rattle.rng_simple.specs.declared.graph.parts.GraphElement.{GraphElement}
use Rattle.rng_simple.specs.declared.graph.parts.GraphRow.{GraphRow}
use Rattle.rng_simple.specs.declared.graph.parts.GraphRow.TheVariants as row

-- the depth of a name class that is nested already, of depth n, with the members after it
abbrev pub nested_class_depth : ℕ → NameClasses → ℕ
nested_class_depth n no_classes = n
nested_class_depth n (class_and c cs) = nested_class_depth (one_more (max n (cut_off (class_depth (nested c))))) cs

-- the depth of members; no members have the depth of a leaf
abbrev pub members_depth : List ℕ → ℕ
members_depth [] = 1
members_depth (n ∷ ns) = nested_depth n ns

-- the depth of a definition in a table, 0 outside the table
abbrev pub depth_in : List ℕ → ℕ → ℕ
depth_in table j = slice_index_or table j 0

-- the depth of an element is 1, and that of a definition is in the table
abbrev pub depth_at_spot : List ℕ → Spot → ℕ
depth_at_spot table = of_spot (λ k. 1) (depth_in table)

-- the depth of the tree of a row, given those of its children; a child that is missing is notAllowed
abbrev pub row_depth : (Spot → ℕ) → GraphRow → List ℕ → ℕ
row_depth g row.NotAllowed ns = 1
row_depth g row.Empty ns = 1
row_depth g row.Text ns = 1
row_depth g (row.Element k) ns = g (at_element k)
row_depth g (row.Definition j) ns = g (at_definition j)
row_depth g (row.Data d) ns = 1
row_depth g (row.Value v) ns = 1
row_depth g (row.Attribute c) ns = one_more (max (cut_off (class_depth (nested (class_of c.now)))) (slice_index_or ns 0 1))
row_depth g row.List ns = one_more (slice_index_or ns 0 1)
row_depth g (row.DataExcept d) ns = one_more (slice_index_or ns 0 1)
row_depth g row.Mixed ns = one_more (max (slice_index_or ns 0 1) 1)
row_depth g row.Optional ns = one_more (max (slice_index_or ns 0 1) 1)
row_depth g row.ZeroOrMore ns = one_more (one_more (slice_index_or ns 0 1))
row_depth g row.OneOrMore ns = one_more (slice_index_or ns 0 1)
row_depth g (row.Group n) ns = members_depth ns
row_depth g (row.Interleave n) ns = members_depth ns
row_depth g (row.Choice n) ns = members_depth ns

-- the name class of the element, or the tree of its body, is too deep
abbrev pub IsDeepElement : List ℕ → GraphElement → Type 0
IsDeepElement table e =
    (depth_limit < class_depth (nested (class_of e.class.now))) ⊎ (depth_limit < depth_with (depth_at_spot table) (graph_pattern_of e.content))

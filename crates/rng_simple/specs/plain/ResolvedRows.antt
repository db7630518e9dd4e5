-- The plain function that resolves a row of a schema, given the trees before it. Private contracts cite it.
use Rattle.std.specs.Prelude.{ℕ, ◌-◌, List, [], ◌∷◌, ◌++◌, length, take, drop, Option, Some, None, string_bytes}
use Rattle.rng_model.specs.simple.Tree.{Tree, choice, group, interleave}
use Rattle.rng_model.specs.simple.Tree as tree
use Rattle.rng_model.specs.schema.Patterns.{Place, without_parameters}
use Rattle.rng_model.specs.declared.schema_pattern.SchemaRow.{SchemaRow}
use Rattle.rng_model.specs.declared.schema_pattern.SchemaRow.TheVariants as row
use Rattle.rng_model.specs.datatypes.DatatypeViews.{datatype_of}
use Rattle.rng_model.specs.names.NameViews.{class_of}
use Rattle.rng_model.specs.views.SchemaView.{place_of}
use Rattle.rng_simple.specs.plain.Graph.{Spot}
use Rattle.rng_simple.specs.plain.Resolving.{Numbering, Resolved, looked_up, looked_up_outside, with_element}
use Rattle.rng_simple.specs.views.GraphView.{child, members}

-- trees, and the numbering after them
abbrev pub AllResolved : Type 0
AllResolved = List (Tree Spot) × Numbering

-- one more tree behind others
abbrev pub behind : List (Tree Spot) → Resolved → AllResolved
behind ts r = (ts ++ r.0 ∷ [], r.1)

-- in place of the last n trees
abbrev pub in_place : ℕ → (List (Tree Spot) → Resolved) → List (Tree Spot) → AllResolved
in_place n make ts = behind (take (length ts - n) ts) (make (drop (length ts - n) ts))

-- in the grammar at a place, with the one at the other place around it
module _ (x : Place) (outer : Option Place) where
  -- a row with these trees as its children
  abbrev pub row_resolved : SchemaRow → List (Tree Spot) → Numbering → Resolved
  row_resolved row.NotAllowed us v = (tree.not_allowed, v)
  row_resolved row.Empty us v = (tree.empty, v)
  row_resolved row.Text us v = (tree.text, v)
  row_resolved (row.Element c) us v = with_element (class_of c.value) (child us, v)
  row_resolved (row.Attribute c) us v = (tree.attribute (class_of c.value) (child us), v)
  row_resolved row.List us v = (tree.list (child us), v)
  row_resolved (row.Data d) us v = (tree.data_of (datatype_of d.value), v)
  row_resolved (row.DataExcept d) us v = (tree.data_except (datatype_of d.value) (child us), v)
  row_resolved (row.Value w) us v =
      (tree.value (without_parameters (string_bytes w.value.library) (string_bytes w.value.name)) (string_bytes w.value.text), v)
  row_resolved row.Mixed us v = (tree.mixed (child us), v)
  row_resolved row.Optional us v = (tree.optional (child us), v)
  row_resolved row.ZeroOrMore us v = (tree.zero_or_more (child us), v)
  row_resolved row.OneOrMore us v = (tree.one_or_more (child us), v)
  row_resolved (row.Group n) us v = (members group us, v)
  row_resolved (row.Interleave n) us v = (members interleave us, v)
  row_resolved (row.Choice n) us v = (members choice us, v)
  row_resolved (row.Ref y) us v = looked_up (record { place = x; name = Some (string_bytes y) }) v
  row_resolved (row.ParentRef y) us v = looked_up_outside (string_bytes y) outer v
  row_resolved (row.Grammar z) us v = looked_up (record { place = place_of z; name = None }) v
  row_resolved row.External us v = (child us, v)

  -- a row that takes the last n trees; a row without children takes none
  abbrev pub with_resolved : SchemaRow → ℕ → List (Tree Spot) → Numbering → AllResolved
  with_resolved row.NotAllowed n ts v = behind ts (row_resolved row.NotAllowed [] v)
  with_resolved row.Empty n ts v = behind ts (row_resolved row.Empty [] v)
  with_resolved row.Text n ts v = behind ts (row_resolved row.Text [] v)
  with_resolved (row.Element c) n ts v = in_place n (λ us. row_resolved (row.Element c) us v) ts
  with_resolved (row.Attribute c) n ts v = in_place n (λ us. row_resolved (row.Attribute c) us v) ts
  with_resolved row.List n ts v = in_place n (λ us. row_resolved row.List us v) ts
  with_resolved (row.Data d) n ts v = behind ts (row_resolved (row.Data d) [] v)
  with_resolved (row.DataExcept d) n ts v = in_place n (λ us. row_resolved (row.DataExcept d) us v) ts
  with_resolved (row.Value w) n ts v = behind ts (row_resolved (row.Value w) [] v)
  with_resolved row.Mixed n ts v = in_place n (λ us. row_resolved row.Mixed us v) ts
  with_resolved row.Optional n ts v = in_place n (λ us. row_resolved row.Optional us v) ts
  with_resolved row.ZeroOrMore n ts v = in_place n (λ us. row_resolved row.ZeroOrMore us v) ts
  with_resolved row.OneOrMore n ts v = in_place n (λ us. row_resolved row.OneOrMore us v) ts
  with_resolved (row.Group k) n ts v = in_place n (λ us. row_resolved (row.Group k) us v) ts
  with_resolved (row.Interleave k) n ts v = in_place n (λ us. row_resolved (row.Interleave k) us v) ts
  with_resolved (row.Choice k) n ts v = in_place n (λ us. row_resolved (row.Choice k) us v) ts
  with_resolved (row.Ref y) n ts v = behind ts (row_resolved (row.Ref y) [] v)
  with_resolved (row.ParentRef y) n ts v = behind ts (row_resolved (row.ParentRef y) [] v)
  with_resolved (row.Grammar z) n ts v = behind ts (row_resolved (row.Grammar z) [] v)
  with_resolved row.External n ts v = in_place n (λ us. row_resolved row.External us v) ts

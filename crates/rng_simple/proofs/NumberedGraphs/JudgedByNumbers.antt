-- What numbers mean for the schema: S16 by an order or a loop, and S17 by a table of depths.
use Rattle.std.proofs.Common.{◌≡◌, ◌↔◌, sym, subst, ℕ, ◌<◌, List, length, map, slice_get, Some, Contains, All, arith}
use Rattle.std.proofs.lemmas.Option.{slice_get_within, get_or_from_slice_get}
use Rattle.std.proofs.lemmas.List.{length-map}
use Rattle.rng_model.proofs.Members.{contains_mapped}
use Rattle.rng_model.proofs.Places.{contains_at}
use Rattle.rng_model.specs.names.Names.{NameClass}
use Rattle.rng_model.specs.schema.Schema.{Schema, Definition, main_start}
use Rattle.rng_model.specs.schema.Unfolding.{Leaf, Aim, to_element, to_definition, to_nothing}
use Rattle.rng_simple.specs.plain.Expansion.{KeepsExpansion}
use Rattle.rng_model.specs.schema.SchemaClauses.{BreaksExpansion, BreaksDepth}
use Rattle.rng_simple.specs.plain.Met.{IsSettled, IsOrder}
use Rattle.rng_simple.specs.plain.DepthWith.{depth_at, IsFilled, IsFoundDeep, deep_start, deep_body, deep_name}
use Rattle.rng_simple.specs.plain.Graph.{Graph, IsGraphOf, Mentions, IsOrderBy, LeadsBy, spot_depth, IsFilledBy, no_definition, definition_at, IsDeepBy}
use Rattle.rng_simple.specs.plain.Graph.{start_is_deep, body_is_deep, class_is_deep}
use Rattle.rng_simple.proofs.LoopsAndDepths.LoopsOrOrder.{Covers, keeps}
use Rattle.rng_simple.proofs.LoopsAndDepths.SortedDefinitions.{loop_breaks}
use Rattle.rng_simple.proofs.LoopsAndDepths.TooDeep.{breaks_depth}
use Rattle.rng_simple.proofs.NumberedGraphs.Graphs.{found, found_contained, resolved_content, known, covers, has_body, closed}
use Rattle.rng_simple.proofs.NumberedGraphs.GraphTables.{number_is, order_of, leads_of, table_of, depth_resolved, filled_of}
use Rattle.rng_model.specs.simple.Leaves.{class_depth, depth_limit}
use Rattle.rng_simple.specs.plain.InTwos.{nested}
use Rattle.rng_model.proofs.Options.{one_value}
use Rattle.rng_simple.proofs.ListParts.{map_at}

-- ---- S16

module _ (s : Schema) (ds : List Definition) (ls : List Leaf) (g : Graph) (is : IsGraphOf s ds ls g) where
  -- it is broken if a number leads to itself
  pub loop_breaks_expansion : (j : ℕ) → j < length ds → LeadsBy (Mentions g) j j → BreaksExpansion s
  loop_breaks_expansion j h w =
      let d = found ds j h in
      loop_breaks s ds (has_body s ds ls g is) (closed s ds ls g is) (covers s ds ls g is) d.0 (is.met_definitions d.0 (contains_at ds j d.0 d.1))
      (leads_of s ds ls g is w d.0 d.0 d.1 d.1)

  module _ {js : List ℕ} (o : IsOrderBy (Mentions g) js) (h : All (λ j. j < length ds) js) (all : (j : ℕ) → j < length ds → Contains js j) where
    abbrev pub definitions : List Definition
    definitions = map (definition_at ds) js

    in_order : (d : Definition) → Contains ds d → Contains definitions d
    in_order d c =
        let n = found_contained ds d c in
        subst (Contains definitions) (get_or_from_slice_get ds n.0 d no_definition n.1)
        (contains_mapped (definition_at ds) js n.0 (all n.0 (slice_get_within ds n.0 d n.1)))

    settled_in_order : (w : Aim) → IsSettled (Contains ds) w → IsSettled (Contains definitions) w
    settled_in_order (to_element m) k = tt
    settled_in_order (to_definition d) k = in_order d k
    settled_in_order to_nothing k = absurd k

    pub order_is : IsOrder s definitions
    order_is = order_of s ds ls g is o h

    pub order_covers : Covers s (Contains definitions)
    order_covers w m = settled_in_order w (covers s ds ls g is w m)

    -- it is kept if an order has all numbers
    pub order_keeps_expansion : KeepsExpansion s
    order_keeps_expansion = keeps s order_is order_covers

    -- ---- S17, by a table of depths

    module _ (values : ℕ → ℕ) (f : IsFilledBy g (spot_depth values) values js) (classes : List NameClass) (named : map (λ m. m.class) ls ≡ classes) where
      depths : IsFilled s (depth_at s (table_of s ds ls g is values)) (table_of s ds ls g is values) definitions
      depths =
          filled_of s ds ls g is (depth_at s (table_of s ds ls g is values)) (spot_depth values) values
          (λ x a r e. depth_resolved s ds ls g is values e) js h f

      deep_by : IsFoundDeep s (table_of s ds ls g is values) → IsDeepBy classes g values
      deep_by (deep_start l) = start_is_deep (subst (λ n. depth_limit < values n) (number_is ds is.definitions_apart 0 (main_start s) is.start) l)
      deep_by (deep_body m w l) =
          let k = found_contained ls m (known s ds ls g is w) in
          let r = resolved_content s ds ls g is m k.0 k.1 in
          body_is_deep k.0 r.0 r.1 (subst (λ n. depth_limit < n) (depth_resolved s ds ls g is values r.2) l)
      deep_by (deep_name m w l) =
          let k = found_contained ls m (known s ds ls g is w) in
          class_is_deep k.0 m.class (subst (λ cs. slice_get cs k.0 ≡ Some m.class) named (map_at (λ n. n.class) ls k.0 m k.1)) l

      by_deep : IsDeepBy classes g values → IsFoundDeep s (table_of s ds ls g is values)
      by_deep (start_is_deep l) = deep_start (subst (λ n. depth_limit < values n) (sym (number_is ds is.definitions_apart 0 (main_start s) is.start)) l)
      by_deep (body_is_deep k r e l) =
          let m = found ls k (omega (arith, slice_get_within g.contents k r e, is.all_contents)) in
          deep_body m.0 (is.met_elements m.0 (contains_at ls k m.0 m.1))
          (subst (λ n. depth_limit < n) (sym (depth_resolved s ds ls g is values (is.contents k m.0 r m.1 e))) l)
      by_deep (class_is_deep k c e l) =
          let at : slice_get (map (λ m. m.class) ls) k ≡ Some c = subst (λ cs. slice_get cs k ≡ Some c) (sym named) e in
          let m = found ls k (omega (arith, slice_get_within (map (λ m. m.class) ls) k c at, length-map ls (λ m. m.class))) in
          let same : m.0.class ≡ c = one_value (map_at (λ n. n.class) ls k m.0 m.1) at in
          deep_name m.0 (is.met_elements m.0 (contains_at ls k m.0 m.1)) (subst (λ d. depth_limit < class_depth (nested d)) (sym same) l)

      pub deep_breaks_depth : BreaksDepth s ↔ IsDeepBy classes g values
      deep_breaks_depth =
          let b = breaks_depth s (table_of s ds ls g is values) order_is order_covers depths in
          (λ x. deep_by (b.0 x), λ x. b.1 (by_deep x))

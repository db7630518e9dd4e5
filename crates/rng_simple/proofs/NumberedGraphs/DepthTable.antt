-- A list of depths that is filled along an order, and what is too deep by it.
use Rattle.std.proofs.Common.{◌≡◌, inl, inr, ap, sym, ◌∙◌, subst, ℕ, ◌+◌, ◌<◌, List, [], ◌∷◌, ◌++◌, length, map, take, set, get_or, slice_get}
use Rattle.std.proofs.Common.{Some, arith}
use Rattle.std.proofs.lemmas.Bool.{cases_lt}
use Rattle.std.proofs.lemmas.List.{length-map, take_more, get_or-set_same, get_or-set_other}
use Rattle.std.proofs.lemmas.Option.{slice_get-get_or, slice_get_within, get_or_from_slice_get}
use Rattle.rng_model.specs.simple.Tree.{Tree}
use Rattle.rng_model.specs.simple.Leaves.{class_depth, depth_limit}
use Rattle.rng_simple.specs.plain.InTwos.{nested}
use Rattle.rng_model.specs.names.NameViews.{class_of}
use Rattle.rng_model.proofs.Options.{one_value}
use Rattle.rng_simple.specs.plain.Graph.{Spot, Graph, Mentions, IsOrderBy, IsFilledBy, spot_depth, IsDeepBy, start_is_deep, body_is_deep, class_is_deep}
use Rattle.rng_simple.specs.views.GraphView.{graph_pattern_of, graph_of, classes_of}
use Rattle.rng_simple.specs.plain.MemberDepths.{depth_in, IsDeepElement}
use Rattle.rng_simple.specs.declared.graph.parts.Graph as declared
use Rattle.rng_simple.specs.declared.graph.parts.GraphElement.{GraphElement}
use Rattle.rng_simple.proofs.NumberedGraphs.TableEntries.{depth_reads, filled_more}
use Rattle.rng_simple.proofs.NumberedGraphs.Graphs.{found}
use Rattle.rng_simple.proofs.ListParts.{map_at}
use Rattle.rng_simple.proofs.NumberedGraphs.Orders.{first_in_order, mentions_earlier}

-- ---- one more depth

module _ (g : Graph) (order : List ℕ) (o : IsOrderBy (Mentions g) order) (table : List ℕ) (i j n : ℕ) (r : Tree Spot) (inside : i < length order)
    (at : j ≡ get_or order i 0) (there : slice_get g.bodies j ≡ Some r) (below : j < length table) (new : n ≡ spot_depth (depth_in table) r) where
  abbrev pub after : List ℕ
  after = set table j n

  at_itself : j ≡ get_or order i j
  at_itself = at ∙ sym (get_or_from_slice_get order i (get_or order i 0) j (slice_get-get_or order i 0 inside))

  pub filled_next : IsFilledBy g (spot_depth (depth_in table)) (depth_in table) (take i order)
      → IsFilledBy g (spot_depth (depth_in after)) (depth_in after) (take (i + 1) order)
  filled_next filled =
      subst (IsFilledBy g (spot_depth (depth_in after)) (depth_in after))
      (sym (take_more order i 0 inside ∙ ap (λ k. take i order ++ k ∷ []) (sym at)))
      (filled_more spot_depth depth_reads g (take i order) (first_in_order (Mentions g) o i) (depth_in table) (depth_in after) filled j r there
      (get_or-set_same table j n 0 below ∙ new) (λ k different. get_or-set_other table j k n 0 different)
      (λ k m. mentions_earlier (Mentions g) o i inside j k at_itself m))

-- ---- what is too deep

module _ (g : declared.Graph) (table : List ℕ) where
  element_there : (k : ℕ) (e : GraphElement) → slice_get g.elements.items k ≡ Some e
      → slice_get (graph_of g).contents k ≡ Some (graph_pattern_of e.content)
  element_there k e is = map_at (λ d. graph_pattern_of d.content) g.elements.items k e is

  class_there : (k : ℕ) (e : GraphElement) → slice_get g.elements.items k ≡ Some e → slice_get (classes_of g) k ≡ Some (class_of e.class.now)
  class_there k e is = map_at (λ d. class_of d.class.now) g.elements.items k e is

  pub element_is_deep : (k : ℕ) (e : GraphElement) → slice_get g.elements.items k ≡ Some e → IsDeepElement table e
      → IsDeepBy (classes_of g) (graph_of g) (depth_in table)
  element_is_deep k e is (inl h) = class_is_deep k (class_of e.class.now) (class_there k e is) h
  element_is_deep k e is (inr h) = body_is_deep k (graph_pattern_of e.content) (element_there k e is) h

  -- the element with this number
  element_at : {B : Type 0} (f : GraphElement → B) (k : ℕ) (x : B) → slice_get (map f g.elements.items) k ≡ Some x
      → (e : GraphElement) × (slice_get g.elements.items k ≡ Some e) × (f e ≡ x)
  element_at f k x is =
      let h : k < length g.elements.items = omega (arith, slice_get_within (map f g.elements.items) k x is, length-map g.elements.items f) in
      let e = found g.elements.items k h in
      (e.0, e.1, one_value (map_at f g.elements.items k e.0 e.1) is)

  pub none_is_deep : (depth_limit < depth_in table 0 → ⊥)
      → ((k : ℕ) (e : GraphElement) → k < length g.elements.items → slice_get g.elements.items k ≡ Some e → IsDeepElement table e → ⊥)
      → IsDeepBy (classes_of g) (graph_of g) (depth_in table) → ⊥
  none_is_deep start elements (start_is_deep h) = start h
  none_is_deep start elements (body_is_deep k r is h) =
      let e = element_at (λ d. graph_pattern_of d.content) k r is in
      elements k e.0 (slice_get_within g.elements.items k e.0 e.1) e.1 (inr (subst (λ a. depth_limit < spot_depth (depth_in table) a) (sym e.2) h))
  none_is_deep start elements (class_is_deep k c is h) =
      let e = element_at (λ d. class_of d.class.now) k c is in
      elements k e.0 (slice_get_within g.elements.items k e.0 e.1) e.1 (inl (subst (λ d. depth_limit < class_depth (nested d)) (sym e.2) h))

  -- one more element that is not deep
  pub next_is_flat : (i : ℕ) (e : GraphElement) → i < length g.elements.items → e ≡ get_or g.elements.items i e → (IsDeepElement table e → ⊥)
      → ((k : ℕ) (d : GraphElement) → k < i → slice_get g.elements.items k ≡ Some d → IsDeepElement table d → ⊥)
      → (k : ℕ) (d : GraphElement) → k < i + 1 → slice_get g.elements.items k ≡ Some d → IsDeepElement table d → ⊥
  next_is_flat i e inside at flat earlier k d h is deep = elim (cases_lt k i) [
    | inl l ↦ earlier k d l is deep
    | inr l ↦
        let same : k ≡ i = omega arith in
        let here : d ≡ e =
        one_value is (ap (slice_get g.elements.items) same ∙ slice_get-get_or g.elements.items i e inside ∙ ap Some (sym at)) in
        flat (subst (IsDeepElement table) here deep)
  ]

-- Building a graph, one body after another, and the result when everything that is numbered has a body.
use Rattle.std.proofs.Common.{◌≡◌, inl, inr, refl, ap, ap₂, sym, ◌∙◌, subst, ℕ, ◌<◌, ◌≤◌, List, [], ◌∷◌, ◌++◌, length, slice_get, Some, length-append}
use Rattle.std.proofs.Common.{arith}
use Rattle.std.proofs.lemmas.List.Elements.{Contains-append_cases}
use Rattle.std.proofs.lemmas.Option.{slice_get_within}
use Rattle.rng_model.proofs.Places.{before_or_at_end, front_stays, contains_at}
use Rattle.rng_model.specs.simple.Tree.{Tree, not_allowed, empty, text, leaf, attribute, list, data_of, data_except, value, mixed, optional, zero_or_more}
use Rattle.rng_model.specs.simple.Tree.{one_or_more, joined, Trees, no_trees, tree_and}
use Rattle.rng_model.specs.schema.Patterns.{Place, Point}
use Rattle.rng_model.specs.schema.Schema.{Schema, Definition, main_start, body}
use Rattle.rng_model.specs.simple.Leaves.{LeafIn, LeafAmong, renamed, all_renamed}
use Rattle.rng_model.specs.simple.Leaves as at
use Rattle.rng_model.specs.schema.Unfolding.{Leaf, content_of}
use Rattle.rng_simple.specs.plain.Met.{met_in_definition, met_in_element}
use Rattle.rng_simple.specs.plain.Graph.{Spot, at_element, at_definition, Graph, element_aim, definition_aim, aim_at, IsSpotBelow, IsResolved, IsGraphOf, IsPartOf}
use Rattle.rng_simple.specs.plain.Graph.{Brings}
use Rattle.rng_model.proofs.Options.{one_value}

module _ {K L : Type 0} (f g : K → L) where
  mutual
    -- only the values of the leaves matter
    pub renamed_same : (a : Tree K) → ((k : K) → LeafIn k a → f k ≡ g k) → renamed f a ≡ renamed g a
    renamed_same not_allowed e = refl
    renamed_same empty e = refl
    renamed_same text e = refl
    renamed_same (leaf k) e = ap leaf (e k at.here)
    renamed_same (attribute c a) e = ap (attribute c) (renamed_same a (λ k i. e k (at.of_attribute i)))
    renamed_same (list a) e = ap list (renamed_same a (λ k i. e k (at.of_list i)))
    renamed_same (data_of d) e = refl
    renamed_same (data_except d a) e = ap (data_except d) (renamed_same a (λ k i. e k (at.of_except i)))
    renamed_same (value d v) e = refl
    renamed_same (mixed a) e = ap mixed (renamed_same a (λ k i. e k (at.of_mixed i)))
    renamed_same (optional a) e = ap optional (renamed_same a (λ k i. e k (at.of_optional i)))
    renamed_same (zero_or_more a) e = ap zero_or_more (renamed_same a (λ k i. e k (at.of_zero_or_more i)))
    renamed_same (one_or_more a) e = ap one_or_more (renamed_same a (λ k i. e k (at.of_one_or_more i)))
    renamed_same (joined k a b ts) e =
        let x = renamed_same a (λ k i. e k (at.of_first i)) in
        let y = renamed_same b (λ k i. e k (at.of_second i)) in
        let z = all_renamed_same ts (λ k i. e k (at.of_others i)) in cc

    all_renamed_same : (ts : Trees K) → ((k : K) → LeafAmong k ts → f k ≡ g k) → all_renamed f ts ≡ all_renamed g ts
    all_renamed_same no_trees e = refl
    all_renamed_same (tree_and a ts) e = ap₂ tree_and (renamed_same a (λ k i. e k (at.in_this i))) (all_renamed_same ts (λ k i. e k (at.in_later i)))

-- ---- more numbers

aim_stays : (ds more_ds : List Definition) (ls more_ls : List Leaf) (p : Spot) → IsSpotBelow (length ds) (length ls) p
    → aim_at ds ls p ≡ aim_at (ds ++ more_ds) (ls ++ more_ls) p
aim_stays ds more_ds ls more_ls (at_element k) h = ap element_aim (sym (front_stays ls more_ls k h))
aim_stays ds more_ds ls more_ls (at_definition j) h = ap definition_aim (sym (front_stays ds more_ds j h))

below_more : (ds more_ds : List Definition) (ls more_ls : List Leaf) (p : Spot) → IsSpotBelow (length ds) (length ls) p
    → IsSpotBelow (length (ds ++ more_ds)) (length (ls ++ more_ls)) p
below_more ds more_ds ls more_ls (at_element k) h = omega (arith, length-append ls more_ls)
below_more ds more_ds ls more_ls (at_definition j) h = omega (arith, length-append ds more_ds)

-- what is resolved stays resolved
pub resolved_more : (s : Schema) (ds more_ds : List Definition) (ls more_ls : List Leaf) {x : Place} {a : Tree Point} {r : Tree Spot}
    → IsResolved s ds ls x a r → IsResolved s (ds ++ more_ds) (ls ++ more_ls) x a r
resolved_more s ds more_ds ls more_ls {r = r} e = record {
  same = e.same ∙ renamed_same (aim_at ds ls) (aim_at (ds ++ more_ds) (ls ++ more_ls)) r (λ p i. aim_stays ds more_ds ls more_ls p (e.below p i));
  below = λ p i. below_more ds more_ds ls more_ls p (e.below p i);
}

-- ---- one more body

module _ (s : Schema) (ds : List Definition) (ls : List Leaf) (g : Graph) (is : IsPartOf s ds ls g) (more_ds : List Definition) (more_ls : List Leaf) where
  abbrev all_ds : List Definition
  all_ds = ds ++ more_ds

  abbrev all_ls : List Leaf
  all_ls = ls ++ more_ls

  old_body : (j : ℕ) (d : Definition) (r : Tree Spot) → slice_get all_ds j ≡ Some d → slice_get g.bodies j ≡ Some r
      → (a : Tree Point) × (body s d ≡ Some a) × IsResolved s all_ds all_ls d.place a r
  old_body j d r e f =
      let inside : j < length ds = omega (arith, slice_get_within g.bodies j r f, is.some_bodies) in
      let b = is.bodies j d r (sym (front_stays ds more_ds j inside) ∙ e) f in
      (b.0, b.1, resolved_more s ds more_ds ls more_ls b.2)

  old_content : (k : ℕ) (m : Leaf) (r : Tree Spot) → slice_get all_ls k ≡ Some m → slice_get g.contents k ≡ Some r
      → IsResolved s all_ds all_ls m.place (content_of m) r
  old_content k m r e f =
      let inside : k < length ls = omega (arith, slice_get_within g.contents k r f, is.some_contents) in
      resolved_more s ds more_ds ls more_ls (is.contents k m r (sym (front_stays ls more_ls k inside) ∙ e) f)

  -- the body of the next definition
  pub next_body : (d : Definition) (a : Tree Point) (r : Tree Spot) → slice_get ds (length g.bodies) ≡ Some d → body s d ≡ Some a
      → Brings s d.place a ds ls more_ds more_ls → IsResolved s all_ds all_ls d.place a r →
      IsPartOf s all_ds all_ls (record { bodies = g.bodies ++ r ∷ []; contents = g.contents })
  next_body d a r here b brings e =
      let met = is.met_definitions d (contains_at ds (length g.bodies) d here) in record {
        start = front_stays ds more_ds 0 (slice_get_within ds 0 (main_start s) is.start) ∙ is.start;
        some_bodies = omega (arith, slice_get_within ds (length g.bodies) d here, length-append ds more_ds, length-append g.bodies (r ∷ []));
        some_contents = omega (arith, is.some_contents, length-append ls more_ls);
        bodies = λ j c q f h. elim (before_or_at_end g.bodies r q j h) [
          | inl k ↦ old_body j c q f k
          | inr k ↦
              let same : d ≡ c = one_value (front_stays ds more_ds (length g.bodies) (slice_get_within ds (length g.bodies) d here) ∙ here)
              (ap (slice_get all_ds) (sym k.0) ∙ f) in
              subst (λ v. (a : Tree Point) × (body s v ≡ Some a) × IsResolved s all_ds all_ls v.place a q) same
              (a, b, subst (IsResolved s all_ds all_ls d.place a) (sym k.1) e)
        ];
        contents = old_content;
        met_definitions = λ c i. elim (Contains-append_cases ds more_ds c i) [
          | inl h ↦ is.met_definitions c h
          | inr h ↦ let l = brings.definitions c h in met_in_definition met b l.1 (sym l.2)
        ];
        met_elements = λ m i. elim (Contains-append_cases ls more_ls m i) [
          | inl h ↦ is.met_elements m h
          | inr h ↦ let l = brings.elements m h in met_in_definition met b l.1 (sym l.2)
        ];
        definitions_apart = brings.definitions_apart;
        elements_apart = brings.elements_apart;
      }

  -- the body of the next element
  pub next_content : (n : Leaf) (r : Tree Spot) → slice_get ls (length g.contents) ≡ Some n → Brings s n.place (content_of n) ds ls more_ds more_ls
      → IsResolved s all_ds all_ls n.place (content_of n) r →
      IsPartOf s all_ds all_ls (record { bodies = g.bodies; contents = g.contents ++ r ∷ [] })
  next_content n r here brings e =
      let met = is.met_elements n (contains_at ls (length g.contents) n here) in record {
        start = front_stays ds more_ds 0 (slice_get_within ds 0 (main_start s) is.start) ∙ is.start;
        some_bodies = omega (arith, is.some_bodies, length-append ds more_ds);
        some_contents = omega (arith, slice_get_within ls (length g.contents) n here, length-append ls more_ls, length-append g.contents (r ∷ []));
        bodies = old_body;
        contents = λ j m q f h. elim (before_or_at_end g.contents r q j h) [
          | inl k ↦ old_content j m q f k
          | inr k ↦
              let same : n ≡ m = one_value (front_stays ls more_ls (length g.contents) (slice_get_within ls (length g.contents) n here) ∙ here)
              (ap (slice_get all_ls) (sym k.0) ∙ f) in
              subst (λ v. IsResolved s all_ds all_ls v.place (content_of v) q) same (subst (IsResolved s all_ds all_ls n.place (content_of n)) (sym k.1) e)
        ];
        met_definitions = λ c i. elim (Contains-append_cases ds more_ds c i) [
          | inl h ↦ is.met_definitions c h
          | inr h ↦ let l = brings.definitions c h in met_in_element met l.1 (sym l.2)
        ];
        met_elements = λ m i. elim (Contains-append_cases ls more_ls m i) [
          | inl h ↦ is.met_elements m h
          | inr h ↦ let l = brings.elements m h in met_in_element met l.1 (sym l.2)
        ];
        definitions_apart = brings.definitions_apart;
        elements_apart = brings.elements_apart;
      }

-- when everything that is numbered has a body
pub whole_graph : (s : Schema) (ds : List Definition) (ls : List Leaf) (g : Graph) → IsPartOf s ds ls g → length ds ≤ length g.bodies
    → length ls ≤ length g.contents → IsGraphOf s ds ls g
whole_graph s ds ls g is h k = record {
  start = is.start;
  all_bodies = omega (arith, is.some_bodies);
  all_contents = omega (arith, is.some_contents);
  bodies = is.bodies;
  contents = is.contents;
  met_definitions = is.met_definitions;
  met_elements = is.met_elements;
  definitions_apart = is.definitions_apart;
  elements_apart = is.elements_apart;
}

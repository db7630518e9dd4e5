-- Orders, loops and tables of numbers are orders, loops and tables of definitions.
use Rattle.std.proofs.Common.{◌≡◌, inl, inr, refl, ap, sym, ◌∙◌, subst, ℕ, zero, suc, ◌+◌, ◌<◌, List, [], ◌∷◌, length, map, slice_get, Option, Some}
use Rattle.std.proofs.Common.{None, Bool, true, false, if◌then◌else◌, Contains, All, arith}
use Rattle.std.proofs.lemmas.List.{map-append}
use Rattle.std.proofs.lemmas.List.Elements.{All-contains, Contains-append_left, Contains-append_right, Contains-append_cases, Contains-push}
use Rattle.std.proofs.lemmas.List.Elements.{Contains-push_cases}
use Rattle.std.proofs.lemmas.Option.{slice_get_within, get_or_from_slice_get}
use Rattle.rng_model.proofs.Texts.{bytes_itself}
use Rattle.rng_model.proofs.Members.{not_in_none, contains_mapped, all_from_members}
use Rattle.rng_model.proofs.Places.{contains_at}
use Rattle.rng_model.specs.simple.Tree.{Tree}
use Rattle.rng_model.specs.schema.Patterns.{Place, Point}
use Rattle.rng_model.specs.schema.Schema.{Schema, Definition, body, same_component_name}
use Rattle.rng_model.specs.simple.Leaves.{LeafIn}
use Rattle.rng_model.specs.schema.Unfolding.{Leaf, Aim, to_definition, aim}
use Rattle.rng_simple.specs.plain.Met.{IsSettled, IsOrder, none_yet, and_then, Leads, directly, further}
use Rattle.rng_simple.specs.plain.DepthWith.{depth_with, of_aim, depth_at, IsFilled}
use Rattle.rng_simple.specs.plain.Graph.{Spot, at_element, at_definition, Graph, element_aim, definition_aim, aim_at, IsSpotBelow, IsResolved, same_definition}
use Rattle.rng_simple.specs.plain.Graph.{same_leaf, ArePairwiseApart, IsGraphOf, Mentions, IsOrderBy, no_numbers, and_number, LeadsBy, by_one, by_more, of_spot}
use Rattle.rng_simple.specs.plain.Graph.{spot_depth}
use Rattle.rng_simple.specs.plain.Graph.{IsFilledBy, first_with, no_definition, definition_at, number_of, leaf_number}
use Rattle.rng_model.proofs.Options.{one_value}
use Rattle.rng_simple.proofs.Leaves.RenamedLeaves.{depth_same}
use Rattle.rng_simple.proofs.NumberedGraphs.Graphs.{found, spot_of, point_of, resolved_body, has_body}

-- ---- numbers

pub record IsMapped {A B : Type 0} (g : A → B) (xs : List A) (y : B) : Type 0 where
  pub from : A
  pub there : Contains xs from
  pub is : g from ≡ y

mapped_later : {A B : Type 0} (g : A → B) (x : A) (xs : List A) (y : B) → IsMapped g xs y → IsMapped g (x ∷ xs) y
mapped_later g x xs y m = record { from = m.from; there = Contains-append_right (x ∷ []) xs m.from m.there; is = m.is }

pub Contains-from_map : {A B : Type 0} (g : A → B) (xs : List A) (y : B) → Contains (map g xs) y → IsMapped g xs y
Contains-from_map g [] y c = absurd (not_in_none c)
Contains-from_map g (x ∷ xs) y c = elim (Contains-append_cases (g x ∷ []) (map g xs) y c) [
  | inl h ↦ elim (Contains-push_cases [] (g x) y h) [
    | inl n ↦ absurd (not_in_none n)
    | inr e ↦ record { from = x; there = (0, omega arith, refl); is = e }
  ]
  | inr h ↦ mapped_later g x xs y (Contains-from_map g xs y h)
]

first_later : {A : Type 0} (test : A → Bool) (y : A) (ys : List A) (j : ℕ) → first_with test ys ≡ j → (b : Bool) → test y ≡ b → (b ≡ true → ⊥)
    → first_with test (y ∷ ys) ≡ suc j
first_later test y ys j e true q n = absurd (n refl)
first_later test y ys j e false q n =
    let h : first_with test (y ∷ ys) ≡ first_with test ys + 1 = ap (λ b. if b then 0 else first_with test ys + 1) q in
    omega (arith, h, e)

first_is : {A : Type 0} (test : A → Bool) (xs : List A) (j : ℕ) (x : A) → slice_get xs j ≡ Some x → test x ≡ true
    → ((i : ℕ) (y : A) → slice_get xs i ≡ Some y → test y ≡ true → i ≡ j) → first_with test xs ≡ j
first_is test [] j x e t u = absurd (let h = slice_get_within [] j x e in omega arith)
first_is test (y ∷ ys) zero x e t u =
    let same : x ≡ y = one_value e refl in
    ap (λ b. if b then 0 else first_with test ys + 1) (sym (ap test same) ∙ t)
first_is test (y ∷ ys) (suc j) x e t u =
    first_later test y ys j
    (first_is test ys j x e t (λ i z f q. let h : suc i ≡ suc j = u (suc i) z f q in omega arith))
    (test y) refl (λ q. let h : 0 ≡ suc j = u 0 y refl q in omega arith)

pub name_same : (y : Option (List ℕ)) → same_component_name y y ≡ true
name_same None = refl
name_same (Some y) = bytes_itself y

pub definition_same : (d : Definition) → same_definition d d ≡ true
definition_same d = rw (bytes_itself d.place) (name_same d.name)

pub leaf_same : (l : Leaf) → same_leaf l l ≡ true
leaf_same l = rw (bytes_itself l.place) (bytes_itself l.position)

-- the number of the definition at an index
pub number_is : (ds : List Definition) → ArePairwiseApart same_definition ds → (j : ℕ) (d : Definition) → slice_get ds j ≡ Some d → number_of ds d ≡ j
number_is ds apart j d e = first_is (same_definition d) ds j d e (definition_same d) (λ i y f q. sym (apart j i d y e f q))

pub leaf_number_is : (ls : List Leaf) → ArePairwiseApart same_leaf ls → (k : ℕ) (m : Leaf) → slice_get ls k ≡ Some m → leaf_number ls m ≡ k
leaf_number_is ls apart k m e = first_is (same_leaf m) ls k m e (leaf_same m) (λ i y f q. sym (apart k i m y e f q))

-- ---- orders and loops

module _ (s : Schema) (ds : List Definition) (ls : List Leaf) (g : Graph) (is : IsGraphOf s ds ls g) where
  at_number : (j : ℕ) → j < length ds → slice_get ds j ≡ Some (definition_at ds j)
  at_number j h = let f = found ds j h in f.1 ∙ ap Some (sym (get_or_from_slice_get ds j f.0 no_definition f.1))

  aim_settled : (P : Definition → Type 0) (w : Aim) (p : Spot) → IsSpotBelow (length ds) (length ls) p → aim_at ds ls p ≡ w
      → ((i : ℕ) → p ≡ at_definition i → P (definition_at ds i)) → IsSettled P w
  aim_settled P w (at_element k) h e f = let m = found ls k h in subst (IsSettled P) (ap element_aim (sym m.1) ∙ e) tt
  aim_settled P w (at_definition i) h e f = subst (IsSettled P) (ap definition_aim (sym (at_number i h)) ∙ e) (f i refl)

  -- an order of numbers is an order of definitions
  pub order_of : {js : List ℕ} → IsOrderBy (Mentions g) js → All (λ j. j < length ds) js → IsOrder s (map (definition_at ds) js)
  order_of no_numbers h = none_yet
  order_of (and_number {xs = xs} {ys = ys} j o f e) h =
      let d = definition_at ds j in
      let inside : j < length ds = All-contains (λ i. i < length ds) ys j h (subst (λ zs. Contains zs j) (sym e) (Contains-push xs j)) in
      let r = resolved_body s ds ls g is d j (at_number j inside) in
      let b = has_body s ds ls g is d (contains_at ds j d (at_number j inside)) in
      let a = r.2 b.0 b.1 in
      and_then d (order_of o (all_from_members (λ i. i < length ds) xs
      (λ i c. All-contains (λ i. i < length ds) ys i h (subst (λ zs. Contains zs i) (sym e) (Contains-append_left xs (j ∷ []) i c))))) b.1
      (λ l i. let p = spot_of s ds ls g is l a i in
      aim_settled (Contains (map (definition_at ds) xs)) (aim s d.place l) p.name (a.below p.name p.inside) p.is
      (λ n q. contains_mapped (definition_at ds) xs n (f n (record { tree = r.0; is = r.1; there = subst (λ z. LeafIn z r.0) q p.inside }))))
      (ap (map (definition_at ds)) e ∙ map-append (definition_at ds) xs (j ∷ []))

  mention_of : {j i : ℕ} → Mentions g j i → (d e : Definition) → slice_get ds j ≡ Some d → slice_get ds i ≡ Some e
      → (a : Tree Point) × (l : Point) × (body s d ≡ Some a) × LeafIn l a × (aim s d.place l ≡ to_definition e)
  mention_of {j} {i} m d e f h =
      let b = is.bodies j d m.tree f m.is in
      let p = point_of s ds ls g is (at_definition i) b.2 m.there in
      (b.0, p.name, b.1, p.inside, p.is ∙ ap definition_aim h)

  pub mentioned_is_there : {j i : ℕ} → Mentions g j i → i < length ds
  mentioned_is_there {j} {i} m =
      let d = found ds j (omega (arith, slice_get_within g.bodies j m.tree m.is, is.all_bodies)) in
      (is.bodies j d.0 m.tree d.1 m.is).2.below (at_definition i) m.there

  -- a loop of numbers is a loop of definitions
  pub leads_of : {j i : ℕ} → LeadsBy (Mentions g) j i → (d e : Definition) → slice_get ds j ≡ Some d → slice_get ds i ≡ Some e → Leads s d e
  leads_of (by_one m) d e f h = let k = mention_of m d e f h in directly k.2 k.3 k.4
  leads_of (by_more {y = y} m w) d e f h =
      let c = found ds y (mentioned_is_there m) in
      let k = mention_of m d c.0 f c.1 in
      further k.2 k.3 k.4 (leads_of w c.0 e c.1 h)

  -- ---- tables

  abbrev pub table_of : {A : Type 0} → (ℕ → A) → Definition → A
  table_of values d = values (number_of ds d)

  depth_at_spot : (values : ℕ → ℕ) (p : Spot) → IsSpotBelow (length ds) (length ls) p
      → of_aim (λ m. 1) 1 (table_of values) (aim_at ds ls p) ≡ of_spot (λ k. 1) values p
  depth_at_spot values (at_element k) h = let m = found ls k h in ap (λ o. of_aim (λ m. 1) 1 (table_of values) (element_aim o)) m.1
  depth_at_spot values (at_definition j) h =
      let d = found ds j h in ap (λ o. of_aim (λ m. 1) 1 (table_of values) (definition_aim o)) d.1 ∙ ap values (number_is ds is.definitions_apart j d.0 d.1)

  -- the depth of a body by numbers equals its depth by definitions
  pub depth_resolved : (values : ℕ → ℕ) {x : Place} {a : Tree Point} {r : Tree Spot} → IsResolved s ds ls x a r
      → depth_at s (table_of values) x a ≡ spot_depth values r
  depth_resolved values {x} {a} {r} e =
      let G = of_aim (λ m. 1) 1 (table_of values) in
      sym (depth_same (aim s x) G (λ l. G (aim s x l)) a (λ l i. refl)) ∙ ap (depth_with G) e.same
      ∙ depth_same (aim_at ds ls) G (of_spot (λ k. 1) values) r (λ p i. depth_at_spot values p (e.below p i))

  module _ {A : Type 0} (of_body : Place → Tree Point → A) (of_numbers : Tree Spot → A) (values : ℕ → A)
      (resolved : (x : Place) (a : Tree Point) (r : Tree Spot) → IsResolved s ds ls x a r → of_body x a ≡ of_numbers r) where
    -- a table that is filled by numbers is filled
    pub filled_of : (js : List ℕ) → All (λ j. j < length ds) js → IsFilledBy g of_numbers values js
        → IsFilled s of_body (table_of values) (map (definition_at ds) js)
    filled_of js h f d c a b =
        let m = Contains-from_map (definition_at ds) js d c in
        let inside : m.from < length ds = All-contains (λ i. i < length ds) js m.from h m.there in
        let e : slice_get ds m.from ≡ Some d = at_number m.from inside ∙ ap Some m.is in
        let r = resolved_body s ds ls g is d m.from e in
        ap values (number_is ds is.definitions_apart m.from d e) ∙ f m.from m.there r.0 r.1 ∙ sym (resolved d.place a r.0 (r.2 a b))

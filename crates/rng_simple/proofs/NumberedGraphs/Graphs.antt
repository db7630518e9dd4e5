-- From a graph of numbers back to its schema: everything that is met has a number. An order of numbers is an order of
-- definitions, a loop of numbers is a loop of definitions, and tables that are filled by numbers are right.
use Rattle.std.proofs.Common.{◌≡◌, inl, inr, refl, ap, sym, ◌∙◌, subst, ℕ, ◌<◌, List, length, slice_get, Some, Contains, arith}
use Rattle.std.proofs.lemmas.Option.{slice_get_within, slice_get_cases, slice_get-get_or}
use Rattle.rng_model.proofs.Places.{contains_at}
use Rattle.rng_model.specs.simple.Tree.{Tree, not_allowed, empty, text, leaf, attribute, list, data_of, data_except, value, mixed, optional, zero_or_more}
use Rattle.rng_model.specs.simple.Tree.{one_or_more, joined, Trees, no_trees, tree_and}
use Rattle.rng_model.specs.schema.Patterns.{Place, Point}
use Rattle.rng_model.specs.schema.Schema.{Schema, Definition, main_start, body}
use Rattle.rng_model.specs.simple.Leaves.{LeafIn, LeafAmong, renamed, all_renamed}
use Rattle.rng_model.specs.simple.Leaves as at
use Rattle.rng_model.specs.schema.Unfolding.{Leaf, content_of, Aim, to_element, to_definition, to_nothing, aim}
use Rattle.rng_simple.specs.plain.Met.{Met, met_start, met_in_definition, met_in_element, IsSettled}
use Rattle.rng_simple.specs.plain.Graph.{Spot, at_element, at_definition, Graph, element_aim, definition_aim, aim_at, IsSpotBelow, IsResolved, IsGraphOf}
use Rattle.rng_model.proofs.Options.{one_value}
use Rattle.rng_simple.proofs.LoopsAndDepths.LoopsOrOrder.{Covers}

-- ---- leaves of renamed trees

module _ {K L : Type 0} (f : K → L) where
  mutual
    pub leaf_renamed : {k : K} {a : Tree K} → LeafIn k a → LeafIn (f k) (renamed f a)
    leaf_renamed at.here = at.here
    leaf_renamed (at.of_attribute i) = at.of_attribute (leaf_renamed i)
    leaf_renamed (at.of_list i) = at.of_list (leaf_renamed i)
    leaf_renamed (at.of_except i) = at.of_except (leaf_renamed i)
    leaf_renamed (at.of_mixed i) = at.of_mixed (leaf_renamed i)
    leaf_renamed (at.of_optional i) = at.of_optional (leaf_renamed i)
    leaf_renamed (at.of_zero_or_more i) = at.of_zero_or_more (leaf_renamed i)
    leaf_renamed (at.of_one_or_more i) = at.of_one_or_more (leaf_renamed i)
    leaf_renamed (at.of_first i) = at.of_first (leaf_renamed i)
    leaf_renamed (at.of_second i) = at.of_second (leaf_renamed i)
    leaf_renamed (at.of_others i) = at.of_others (leaf_among_renamed i)

    leaf_among_renamed : {k : K} {ts : Trees K} → LeafAmong k ts → LeafAmong (f k) (all_renamed f ts)
    leaf_among_renamed (at.in_this i) = at.in_this (leaf_renamed i)
    leaf_among_renamed (at.in_later i) = at.in_later (leaf_among_renamed i)

  pub record ComesFrom (P : K → Type 0) (l : L) : Type 0 where
    pub name : K
    pub inside : P name
    pub is : f name ≡ l

  abbrev comes : {P Q : K → Type 0} {l : L} → ((k : K) → P k → Q k) → ComesFrom P l → ComesFrom Q l
  comes g o = record { name = o.name; inside = g o.name o.inside; is = o.is }

  mutual
    pub leaf_before : (a : Tree K) (l : L) → LeafIn l (renamed f a) → ComesFrom (λ k. LeafIn k a) l
    leaf_before not_allowed l i = elim i [ ]
    leaf_before empty l i = elim i [ ]
    leaf_before text l i = elim i [ ]
    leaf_before (leaf k) l at.here = record { name = k; inside = at.here; is = refl }
    leaf_before (attribute c a) l (at.of_attribute i) = comes (λ k j. at.of_attribute j) (leaf_before a l i)
    leaf_before (list a) l (at.of_list i) = comes (λ k j. at.of_list j) (leaf_before a l i)
    leaf_before (data_of d) l i = elim i [ ]
    leaf_before (data_except d a) l (at.of_except i) = comes (λ k j. at.of_except j) (leaf_before a l i)
    leaf_before (value d v) l i = elim i [ ]
    leaf_before (mixed a) l (at.of_mixed i) = comes (λ k j. at.of_mixed j) (leaf_before a l i)
    leaf_before (optional a) l (at.of_optional i) = comes (λ k j. at.of_optional j) (leaf_before a l i)
    leaf_before (zero_or_more a) l (at.of_zero_or_more i) = comes (λ k j. at.of_zero_or_more j) (leaf_before a l i)
    leaf_before (one_or_more a) l (at.of_one_or_more i) = comes (λ k j. at.of_one_or_more j) (leaf_before a l i)
    leaf_before (joined k a b ts) l (at.of_first i) = comes (λ n j. at.of_first j) (leaf_before a l i)
    leaf_before (joined k a b ts) l (at.of_second i) = comes (λ n j. at.of_second j) (leaf_before b l i)
    leaf_before (joined k a b ts) l (at.of_others i) = comes (λ n j. at.of_others j) (leaf_among_before ts l i)

    leaf_among_before : (ts : Trees K) (l : L) → LeafAmong l (all_renamed f ts) → ComesFrom (λ k. LeafAmong k ts) l
    leaf_among_before no_trees l i = elim i [ ]
    leaf_among_before (tree_and a ts) l (at.in_this i) = comes (λ k j. at.in_this j) (leaf_before a l i)
    leaf_among_before (tree_and a ts) l (at.in_later i) = comes (λ k j. at.in_later j) (leaf_among_before ts l i)

-- ---- look-ups

pub found : {A : Type 0} (xs : List A) (i : ℕ) → i < length xs → (x : A) × (slice_get xs i ≡ Some x)
found xs i h = elim (slice_get_cases xs i).1 [
  | inl c ↦ (c.0, c.2)
  | inr c ↦ absurd (omega arith)
]

pub found_contained : {A : Type 0} (xs : List A) (x : A) → Contains xs x → (i : ℕ) × (slice_get xs i ≡ Some x)
found_contained xs x c = (c.0, slice_get-get_or xs c.0 x c.1 ∙ ap Some c.2)

-- ---- what is met has a number

module _ (s : Schema) (ds : List Definition) (ls : List Leaf) (g : Graph) (is : IsGraphOf s ds ls g) where
  abbrev pub IsKnown : Aim → Type 0
  IsKnown (to_element m) = Contains ls m
  IsKnown (to_definition d) = Contains ds d
  IsKnown to_nothing = ⊥

  spot_known : (p : Spot) → IsSpotBelow (length ds) (length ls) p → IsKnown (aim_at ds ls p)
  spot_known (at_element k) h = let f = found ls k h in subst (λ o. IsKnown (element_aim o)) (sym f.1) (contains_at ls k f.0 f.1)
  spot_known (at_definition j) h = let f = found ds j h in subst (λ o. IsKnown (definition_aim o)) (sym f.1) (contains_at ds j f.0 f.1)

  -- the spot of a point
  pub spot_of : {x : Place} {a : Tree Point} {r : Tree Spot} (l : Point) → IsResolved s ds ls x a r → LeafIn l a
      → ComesFrom (aim_at ds ls) (λ p. LeafIn p r) (aim s x l)
  spot_of {x} {a} {r} l e i = leaf_before (aim_at ds ls) r (aim s x l) (subst (LeafIn (aim s x l)) e.same (leaf_renamed (aim s x) i))

  -- the point of a spot
  pub point_of : {x : Place} {a : Tree Point} {r : Tree Spot} (p : Spot) → IsResolved s ds ls x a r → LeafIn p r
      → ComesFrom (aim s x) (λ l. LeafIn l a) (aim_at ds ls p)
  point_of {x} {a} {r} p e i = leaf_before (aim s x) a (aim_at ds ls p) (subst (LeafIn (aim_at ds ls p)) (sym e.same) (leaf_renamed (aim_at ds ls) i))

  point_known : {x : Place} {a : Tree Point} {r : Tree Spot} (l : Point) → IsResolved s ds ls x a r → LeafIn l a → IsKnown (aim s x l)
  point_known l e i = let o = spot_of l e i in subst IsKnown o.is (spot_known o.name (e.below o.name o.inside))

  -- the body of a definition with a number, and its tree of spots
  pub resolved_body : (d : Definition) (j : ℕ) → slice_get ds j ≡ Some d
      → (r : Tree Spot) × (slice_get g.bodies j ≡ Some r) × ((a : Tree Point) → body s d ≡ Some a → IsResolved s ds ls d.place a r)
  resolved_body d j e =
      let f = found g.bodies j (omega (arith, slice_get_within ds j d e, is.all_bodies)) in
      let b = is.bodies j d f.0 e f.1 in
      (f.0, f.1, λ a h. subst (λ c. IsResolved s ds ls d.place c f.0) (one_value b.1 h) b.2)

  pub resolved_content : (m : Leaf) (k : ℕ) → slice_get ls k ≡ Some m
      → (r : Tree Spot) × (slice_get g.contents k ≡ Some r) × IsResolved s ds ls m.place (content_of m) r
  resolved_content m k e =
      let f = found g.contents k (omega (arith, slice_get_within ls k m e, is.all_contents)) in
      (f.0, f.1, is.contents k m f.0 e f.1)

  pub body_known : (d : Definition) (a : Tree Point) (l : Point) → Contains ds d → body s d ≡ Some a → LeafIn l a → IsKnown (aim s d.place l)
  body_known d a l c b i = let n = found_contained ds d c in point_known l ((resolved_body d n.0 n.1).2 a b) i

  pub known : {w : Aim} → Met s w → IsKnown w
  known (met_start e) = subst IsKnown (sym e) (contains_at ds 0 (main_start s) is.start)
  known (met_in_definition {d} {a} {l} m b i e) = subst IsKnown (sym e) (body_known d a l (known m) b i)
  known (met_in_element {m = n} {l = l} m i e) =
      let k = found_contained ls n (known m) in
      subst IsKnown (sym e) (point_known l (resolved_content n k.0 k.1).2 i)

  settled : (w : Aim) → IsKnown w → IsSettled (Contains ds) w
  settled (to_element m) k = tt
  settled (to_definition d) k = k
  settled to_nothing k = absurd k

  pub covers : Covers s (Contains ds)
  covers w m = settled w (known m)

  pub has_body : (d : Definition) → Contains ds d → (a : Tree Point) × (body s d ≡ Some a)
  has_body d c =
      let n = found_contained ds d c in
      let f = found g.bodies n.0 (omega (arith, slice_get_within ds n.0 d n.1, is.all_bodies)) in
      let b = is.bodies n.0 d f.0 n.1 f.1 in (b.0, b.1)

  pub closed : (d : Definition) (a : Tree Point) (l : Point) → Contains ds d → body s d ≡ Some a → LeafIn l a → IsSettled (Contains ds) (aim s d.place l)
  closed d a l c b i = settled (aim s d.place l) (body_known d a l c b i)

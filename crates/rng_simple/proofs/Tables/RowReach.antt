-- The elements that are reached through simple forms are those with a reached row. So it is enough to walk the rows; no
-- tree is walked.
use Rattle.std.proofs.Common.{◌≡◌, ◌⊎◌, inl, inr, refl, ap, sym, ◌∙◌, subst, ℕ, zero, suc, ◌<◌, List, [], ◌∷◌, length, map, slice_get, slice_index_or}
use Rattle.std.proofs.Common.{Some, Contains, arith}
use Rattle.std.proofs.lemmas.Bool.{cases_lt}
use Rattle.std.proofs.lemmas.List.{get_or-map, get_or_past, length-map}
use Rattle.std.proofs.lemmas.List.Elements.{Contains-append_cases}
use Rattle.std.proofs.lemmas.Option.{slice_get-get_or, slice_get_within, get_or_from_slice_get}
use Rattle.rng_model.proofs.Members.{not_in_none, one_only}
use Rattle.rng_model.specs.simple.Tree.{Simple, as_tree}
use Rattle.rng_model.specs.simple.Leaves.{LeafIn}
use Rattle.rng_model.specs.simple.Leaves as at
use Rattle.rng_simple.specs.declared.rows.Row.{Row}
use Rattle.rng_simple.specs.declared.rows.Row.TheVariants as row
use Rattle.rng_simple.specs.plain.GrammarBy.{IsNumberReached, in_first, in_body}
use Rattle.rng_simple.specs.views.Rows.{Labels, row_tree, tree_at, AreChildrenBelow, Falls}
use Rattle.rng_simple.specs.plain.RowReach.{nexts, row_next}
use Rattle.rng_labels.specs.plain.Queues.{IsReachedBy, at_start, onward}
use Rattle.rng_simple.proofs.Tables.RowTrees.{tree_at-over_children}

pub one_of_two : (x z y : ℕ) → Contains (x ∷ (z ∷ [])) y → (x ≡ y) ⊎ (z ≡ y)
one_of_two x z y c = elim (Contains-append_cases (x ∷ []) (z ∷ []) y c) [ inl h ↦ inl (one_only x y h) | inr h ↦ inr (one_only z y h) ]

module _ (l : Labels) (rs : List Row) (falls : Falls rs) (content : ℕ → ℕ) (contents_below : (k : ℕ) → content k < length rs) (first : ℕ)
    (first_below : first < length rs) where
  row_at : (i : ℕ) → i < length rs → slice_get rs i ≡ Some (slice_index_or rs i row.Empty)
  row_at i h = slice_get-get_or rs i row.Empty h

  row_is : (i k : ℕ) → slice_get rs i ≡ Some (row.Element k) → row.Element k ≡ slice_index_or rs i row.Empty
  row_is i k e = sym (get_or_from_slice_get rs i (row.Element k) row.Empty e)

  tree_is : (i : ℕ) → i < length rs → tree_at l rs i ≡ row_tree l (tree_at l rs) (slice_index_or rs i row.Empty)
  tree_is i h = tree_at-over_children l rs i (slice_index_or rs i row.Empty) falls (row_at i h)

  -- ---- the leaves of a reached row are reached

  abbrev Stands : ℕ → Type 0
  Stands i = (i < length rs) × ((k : ℕ) → LeafIn k (as_tree (tree_at l rs i)) → IsNumberReached (tree_at l rs first) (λ j. tree_at l rs (content j)) k)

  onward_stands : (r : Row) (n y : ℕ) → n < length rs → AreChildrenBelow n r
      → ((k : ℕ) → LeafIn k (as_tree (row_tree l (tree_at l rs) r)) → IsNumberReached (tree_at l rs first) (λ j. tree_at l rs (content j)) k)
      → Contains (nexts content r) y → Stands y
  onward_stands (row.Element m) n y h b f c = subst Stands (one_only (content m) y c) (contents_below m, λ k i. in_body (f m at.here) i)
  onward_stands (row.Attribute d a) n y h b f c = subst Stands (one_only a y c) (omega arith, λ k i. f k (at.of_attribute i))
  onward_stands (row.List a) n y h b f c = subst Stands (one_only a y c) (omega arith, λ k i. f k (at.of_list i))
  onward_stands (row.DataExcept d a) n y h b f c = subst Stands (one_only a y c) (omega arith, λ k i. f k (at.of_except i))
  onward_stands (row.OneOrMore a) n y h b f c = subst Stands (one_only a y c) (omega arith, λ k i. f k (at.of_one_or_more i))
  onward_stands (row.Choice a e) n y h b f c = elim (one_of_two a e y c) [
    | inl e ↦ subst Stands e (omega (arith, b.0), λ k i. f k (at.of_first i))
    | inr e ↦ subst Stands e (omega (arith, b.1), λ k i. f k (at.of_second i))
  ]
  onward_stands (row.Group a e) n y h b f c = elim (one_of_two a e y c) [
    | inl e ↦ subst Stands e (omega (arith, b.0), λ k i. f k (at.of_first i))
    | inr e ↦ subst Stands e (omega (arith, b.1), λ k i. f k (at.of_second i))
  ]
  onward_stands (row.Interleave a e) n y h b f c = elim (one_of_two a e y c) [
    | inl e ↦ subst Stands e (omega (arith, b.0), λ k i. f k (at.of_first i))
    | inr e ↦ subst Stands e (omega (arith, b.1), λ k i. f k (at.of_second i))
  ]
  onward_stands row.NotAllowed n y h b f c = absurd (not_in_none c)
  onward_stands row.Empty n y h b f c = absurd (not_in_none c)
  onward_stands row.Text n y h b f c = absurd (not_in_none c)
  onward_stands (row.Data d) n y h b f c = absurd (not_in_none c)
  onward_stands (row.Value v) n y h b f c = absurd (not_in_none c)

  stands : {i : ℕ} → IsReachedBy (row_next rs content) (first ∷ []) i → Stands i
  stands (at_start {x = i} c) = subst Stands (one_only first i c) (first_below, λ k i. in_first i)
  stands (onward {x = i} {y = j} w c) =
      let h = stands w in
      onward_stands (slice_index_or rs i row.Empty) i j h.0 (falls i (slice_index_or rs i row.Empty) (row_at i h.0))
      (λ k m. h.1 k (subst (λ u. LeafIn k (as_tree u)) (sym (tree_is i h.0)) m)) c

  -- ---- a leaf of a reached row has a reached row

  pub record HasRow (k : ℕ) : Type 0 where
    pub place : ℕ
    pub there : slice_get rs place ≡ Some (row.Element k)
    pub reached : IsReachedBy (row_next rs content) (first ∷ []) place

  down : (r : Row) (n k : ℕ) → slice_get rs n ≡ Some r → IsReachedBy (row_next rs content) (first ∷ []) n
      → ((y : ℕ) → y < n → Contains (nexts content r) y → LeafIn k (as_tree (tree_at l rs y)) → HasRow k) → AreChildrenBelow n r
      → LeafIn k (as_tree (row_tree l (tree_at l rs) r)) → HasRow k
  down (row.Element m) n k e w f b at.here = record { place = n; there = e; reached = w }
  down (row.Attribute d a) n k e w f b (at.of_attribute i) = f a b (0, omega arith, refl) i
  down (row.List a) n k e w f b (at.of_list i) = f a b (0, omega arith, refl) i
  down (row.DataExcept d a) n k e w f b (at.of_except i) = f a b (0, omega arith, refl) i
  down (row.OneOrMore a) n k e w f b (at.of_one_or_more i) = f a b (0, omega arith, refl) i
  down (row.Choice a c) n k e w f b (at.of_first i) = f a b.0 (0, omega arith, refl) i
  down (row.Group a c) n k e w f b (at.of_first i) = f a b.0 (0, omega arith, refl) i
  down (row.Interleave a c) n k e w f b (at.of_first i) = f a b.0 (0, omega arith, refl) i
  down (row.Choice a c) n k e w f b (at.of_second i) = f c b.1 (1, omega arith, refl) i
  down (row.Group a c) n k e w f b (at.of_second i) = f c b.1 (1, omega arith, refl) i
  down (row.Interleave a c) n k e w f b (at.of_second i) = f c b.1 (1, omega arith, refl) i
  down (row.Choice a c) n k e w f b (at.of_others i) = elim i [ ]
  down (row.Group a c) n k e w f b (at.of_others i) = elim i [ ]
  down (row.Interleave a c) n k e w f b (at.of_others i) = elim i [ ]
  down row.NotAllowed n k e w f b i = elim i [ ]
  down row.Empty n k e w f b i = elim i [ ]
  down row.Text n k e w f b i = elim i [ ]
  down (row.Data d) n k e w f b i = elim i [ ]
  down (row.Value v) n k e w f b i = elim i [ ]

  leaf_row : (bound n k : ℕ) → n < bound → n < length rs → IsReachedBy (row_next rs content) (first ∷ []) n → LeafIn k (as_tree (tree_at l rs n)) → HasRow k
  leaf_row zero n k m h w i = absurd (omega arith)
  leaf_row (suc bound) n k m h w i =
      down (slice_index_or rs n row.Empty) n k (row_at n h) w (λ y p c j. leaf_row bound y k (omega (arith, p, m)) (omega (arith, p, h)) (onward w c) j)
      (falls n (slice_index_or rs n row.Empty) (row_at n h)) (subst (λ u. LeafIn k (as_tree u)) (tree_is n h) i)

  -- an element that is reached has a reached row
  pub leaf_has_row : {k : ℕ} → IsNumberReached (tree_at l rs first) (λ j. tree_at l rs (content j)) k → HasRow k
  leaf_has_row (in_first {k} i) = leaf_row (length rs) first k first_below first_below (at_start (0, omega arith, refl)) i
  leaf_has_row (in_body {j} {k} r i) =
      let h = leaf_has_row r in
      let inside = slice_get_within rs h.place (row.Element j) h.there in
      let next : Contains (row_next rs content h.place) (content j) =
      subst (λ q. Contains (nexts content q) (content j)) (row_is h.place j h.there) (0, omega arith, refl) in
      leaf_row (length rs) (content j) k (contents_below j) (contents_below j) (onward h.reached next) i

  -- and the element of a reached row is reached
  pub row_has_leaf : {i : ℕ} (k : ℕ) → IsReachedBy (row_next rs content) (first ∷ []) i → slice_get rs i ≡ Some (row.Element k)
      → IsNumberReached (tree_at l rs first) (λ j. tree_at l rs (content j)) k
  row_has_leaf {i} k w e = let h = stands w in h.1 k (subst (λ u. LeafIn k (as_tree u)) (sym (tree_at-over_children l rs i (row.Element k) falls e)) at.here)

-- ---- the same in other terms

-- equal successors reach the same
pub reach_same : {A : Type 0} (next other : A → List A) (start : List A) → ((x : A) → next x ≡ other x) → {x : A} → IsReachedBy next start x
    → IsReachedBy other start x
reach_same next other start e (at_start c) = at_start c
reach_same next other start e (onward {x = x} {y = y} r c) = onward (reach_same next other start e r) (subst (λ xs. Contains xs y) (e x) c)

pub numbers_same : (first other : Simple ℕ) (body rest : ℕ → Simple ℕ) → first ≡ other → ((k : ℕ) → body k ≡ rest k) → {k : ℕ}
    → IsNumberReached first body k → IsNumberReached other rest k
numbers_same first other body rest e f (in_first {k = k} i) = in_first (subst (λ u. LeafIn k (as_tree u)) e i)
numbers_same first other body rest e f (in_body {j = j} {k = k} r i) = in_body (numbers_same first other body rest e f r)
    (subst (λ u. LeafIn k (as_tree u)) (f j) i)

pub nexts_at : (rs : List Row) (content : ℕ → ℕ) (all : List (List ℕ)) → all ≡ map (nexts content) rs → (i : ℕ)
    → slice_index_or all i [] ≡ row_next rs content i
nexts_at rs content all e i = elim (cases_lt i (length rs)) [
  | inl h ↦ ap (λ xs. slice_index_or xs i []) e ∙ get_or-map (nexts content) rs i row.Empty [] h
  | inr h ↦
      ap (λ xs. slice_index_or xs i []) e ∙ get_or_past (map (nexts content) rs) i [] (omega (arith, h, length-map rs (nexts content)))
      ∙ sym (ap (nexts content) (get_or_past rs i row.Empty h))
]

pub next_below : (rs : List Row) (content : ℕ → ℕ) (i y : ℕ) (r : Row) → i < length rs → ((k : ℕ) → content k < length rs) → AreChildrenBelow i r
    → Contains (nexts content r) y → y < length rs
next_below rs content i y (row.Element m) l b f c = subst (λ n. n < length rs) (one_only (content m) y c) (b m)
next_below rs content i y (row.Attribute d a) l b f c = subst (λ n. n < length rs) (one_only a y c) (omega arith)
next_below rs content i y (row.List a) l b f c = subst (λ n. n < length rs) (one_only a y c) (omega arith)
next_below rs content i y (row.DataExcept d a) l b f c = subst (λ n. n < length rs) (one_only a y c) (omega arith)
next_below rs content i y (row.OneOrMore a) l b f c = subst (λ n. n < length rs) (one_only a y c) (omega arith)
next_below rs content i y (row.Choice a e) l b f c = elim (one_of_two a e y c) [ inl h ↦ omega (arith, f.0, h) | inr h ↦ omega (arith, f.1, h) ]
next_below rs content i y (row.Group a e) l b f c = elim (one_of_two a e y c) [ inl h ↦ omega (arith, f.0, h) | inr h ↦ omega (arith, f.1, h) ]
next_below rs content i y (row.Interleave a e) l b f c = elim (one_of_two a e y c) [ inl h ↦ omega (arith, f.0, h) | inr h ↦ omega (arith, f.1, h) ]
next_below rs content i y row.NotAllowed l b f c = absurd (not_in_none c)
next_below rs content i y row.Empty l b f c = absurd (not_in_none c)
next_below rs content i y row.Text l b f c = absurd (not_in_none c)
next_below rs content i y (row.Data d) l b f c = absurd (not_in_none c)
next_below rs content i y (row.Value v) l b f c = absurd (not_in_none c)

module _ (rs : List Row) (content : ℕ → ℕ) (all : List (List ℕ)) (is : all ≡ map (nexts content) rs) where
  pub reached_by : (start : List ℕ) (first : ℕ) → start ≡ first ∷ [] → {i : ℕ} → IsReachedBy (λ j. slice_index_or all j []) start i
      → IsReachedBy (row_next rs content) (first ∷ []) i
  reached_by start first e {i} r =
      subst (λ xs. IsReachedBy (row_next rs content) xs i) e
      (reach_same (λ j. slice_index_or all j []) (row_next rs content) start (nexts_at rs content all is) r)

  pub by_reached : (start : List ℕ) (first : ℕ) → start ≡ first ∷ [] → {i : ℕ} → IsReachedBy (row_next rs content) (first ∷ []) i
      → IsReachedBy (λ j. slice_index_or all j []) start i
  by_reached start first e {i} r =
      reach_same (row_next rs content) (λ j. slice_index_or all j []) start (λ j. sym (nexts_at rs content all is j))
      (subst (λ xs. IsReachedBy (row_next rs content) xs i) (sym e) r)

  pub nexts_below : Falls rs → ((k : ℕ) → content k < length rs) → (j i : ℕ) → Contains (slice_index_or all j []) i → i < length all
  nexts_below falls below j i c =
      let long : length all ≡ length rs = ap length is ∙ length-map rs (nexts content) in
      let there : Contains (row_next rs content j) i = subst (λ xs. Contains xs i) (nexts_at rs content all is j) c in
      elim (cases_lt j (length rs)) [
        | inl h ↦
            let r = slice_index_or rs j row.Empty in
            let inside : i < length rs = next_below rs content j i r h below (falls j r (slice_get-get_or rs j row.Empty h)) there in
            omega (arith, inside, long)
        | inr h ↦ absurd (not_in_none (subst (λ r. Contains (nexts content r) i) (get_or_past rs j row.Empty h) there))
      ]

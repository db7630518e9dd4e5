-- Lists by row that grow row by row.
use Rattle.std.proofs.Common.{◌≡◌, ◌⊎◌, ◌↔◌, inl, inr, refl, ap, sym, ◌∙◌, subst, ℕ, ◌+◌, ◌<◌, ◌≤◌, List, [], ◌∷◌, ◌++◌, length, map, set}
use Rattle.std.proofs.Common.{slice_get, slice_index_or, Some, None, All, Contains, get_or, length-append, arith}
use Rattle.std.proofs.lemmas.Bool.{cases_eq, cases_lt}
use Rattle.std.proofs.lemmas.List.{length-map, get_or-map, get_or-set_same, get_or-set_other, get_or_append_left, get_or_push, get_or_past}
use Rattle.std.proofs.lemmas.List.Elements.{All-append, All-map, Contains-push, Contains-push_cases, Contains-append_left, Contains-append_cases}
use Rattle.std.proofs.lemmas.Option.{slice_get_cases, slice_get_within, get_or_from_slice_get}
use Rattle.rng_model.proofs.Options.{one_value}
use Rattle.rng_model.proofs.Members.{not_in_none, one_only, all_from_members}
use Rattle.rng_model.specs.declared.simple.Simple.{Simple}
use Rattle.rng_model.specs.declared.simple.Simple.TheVariants as simple
use Rattle.rng_model.specs.declared.simple.PatternId.{PatternId}
use Rattle.rng_model.specs.declared.name.NameClass.{NameClass}
use Rattle.rng_model.specs.simple.Table.{Table}
use Rattle.rng_model.specs.simple.TableRules.{AreChildrenBelow, Falls, IsTable}
use Rattle.rng_model.proofs.MadeLists.{past_end}
use Rattle.rng_rules.specs.plain.NamesMeetReach.{AreBelow}
use Rattle.rng_rules.specs.views.NamesMeetRows.{IsAbove, Passes, children, part_rows, passed}

-- ---- a row in the list of its child

module _ (all : List (List ℕ)) (child row : ℕ) (inside : child < length all) where
  abbrev with_row : List (List ℕ)
  with_row = set all child (get_or all child [] ++ row ∷ [])

  pub row_added : (c p : ℕ) → Contains (get_or with_row c []) p ↔ (Contains (get_or all c []) p ⊎ ((p ≡ row) × (c ≡ child)))
  row_added c p = elim (cases_eq c child) [
    | inl e ↦
        let own : get_or with_row c [] ≡ get_or all c [] ++ row ∷ [] =
        ap (λ k. get_or with_row k []) e ∙ get_or-set_same all child (get_or all child [] ++ row ∷ []) [] inside ∙ ap (λ k. get_or all k [] ++ row ∷ []) (sym e) in (
          λ h. elim (Contains-push_cases (get_or all c []) row p (subst (λ xs. Contains xs p) own h)) [ inl i ↦ inl i | inr i ↦ inr (sym i, e) ],
          λ h. subst (λ xs. Contains xs p) (sym own) (either h),
        )
    | inr n ↦
        let own : get_or with_row c [] ≡ get_or all c [] = get_or-set_other all child c (get_or all child [] ++ row ∷ []) [] n in (
          λ h. inl (subst (λ xs. Contains xs p) own h),
          λ h. elim h [ inl i ↦ subst (λ xs. Contains xs p) (sym own) i | inr i ↦ absurd (n i.1) ],
        )
  ]
    where
      either : Contains (get_or all c []) p ⊎ ((p ≡ row) × (c ≡ child)) → Contains (get_or all c [] ++ row ∷ []) p
      either (inl i) = Contains-append_left (get_or all c []) (row ∷ []) p i
      either (inr i) = subst (Contains (get_or all c [] ++ row ∷ [])) (sym i.0) (Contains-push (get_or all c []) row)

-- ---- a row in the lists of the rows that it passes to

pub one_of_two : {x z y : ℕ} → Contains (x ∷ (z ∷ [])) y → (y ≡ x) ⊎ (y ≡ z)
one_of_two {x} {z} {y} c = elim (Contains-append_cases (x ∷ []) (z ∷ []) y c) [ inl h ↦ inl (sym (one_only x y h)) | inr h ↦ inr (sym (one_only z y h)) ]

pub first_of_two : {x z y : ℕ} → y ≡ x → Contains (x ∷ (z ∷ [])) y
first_of_two {x} {z} {y} e = subst (Contains (x ∷ (z ∷ []))) (sym e) (0, omega arith, refl)

pub second_of_two : {x z y : ℕ} → y ≡ z → Contains (x ∷ (z ∷ [])) y
second_of_two {x} {z} {y} e = subst (Contains (x ∷ (z ∷ []))) (sym e) (1, omega arith, refl)

only_one : {x y : ℕ} → y ≡ x → Contains (x ∷ []) y
only_one {x} {y} e = subst (Contains (x ∷ [])) (sym e) (0, omega arith, refl)

module _ (old new newer : ℕ → ℕ → Type 0) (row a b : ℕ) where
  pub one_passed : (cs : List ℕ) → a ∷ [] ≡ cs → ((c p : ℕ) → new c p ↔ (old c p ⊎ ((p ≡ row) × (c ≡ a)))) → (c p : ℕ)
      → new c p ↔ (old c p ⊎ ((p ≡ row) × Contains cs c))
  one_passed cs same f c p = subst (λ xs. new c p ↔ (old c p ⊎ ((p ≡ row) × Contains xs c))) same (
    λ n. elim ((f c p).0 n) [ inl o ↦ inl o | inr e ↦ inr (e.0, only_one e.1) ],
    λ h. (f c p).1 (elim h [ inl o ↦ inl o | inr e ↦ inr (e.0, sym (one_only a c e.1)) ]),
  )

  pub two_passed : (cs : List ℕ) → a ∷ (b ∷ []) ≡ cs → ((c p : ℕ) → new c p ↔ (old c p ⊎ ((p ≡ row) × (c ≡ a)))) → ((c p : ℕ) → newer c p ↔ (new c p ⊎ ((p ≡ row) × (c ≡ b))))
      → (c p : ℕ) → newer c p ↔ (old c p ⊎ ((p ≡ row) × Contains cs c))
  two_passed cs same f g c p = subst (λ xs. newer c p ↔ (old c p ⊎ ((p ≡ row) × Contains xs c))) same (
    λ n. elim ((g c p).0 n) [ inl m ↦ elim ((f c p).0 m) [ inl o ↦ inl o | inr e ↦ inr (e.0, first_of_two e.1) ] | inr e ↦ inr (e.0, second_of_two e.1) ],
    λ h. elim h [
      | inl o ↦ (g c p).1 (inl ((f c p).1 (inl o)))
      | inr e ↦ elim (one_of_two e.1) [
        | inl s ↦ (g c p).1 (inl ((f c p).1 (inr (e.0, s))))
        | inr s ↦ (g c p).1 (inr (e.0, s))
      ]
    ],
  )

-- ---- rows one after the other

-- the lists have what the first n rows pass to
pub record IsAboveOfFirst (ps : List Simple) (n : ℕ) (all : List (List ℕ)) : Type 0 where
  pub within : n ≤ length ps
  pub long : length all ≡ n
  pub exact : (c p : ℕ) → Contains (slice_index_or all c []) p ↔ ((p < n) × Passes ps c p)

pub above_none : (ps : List Simple) (all : List (List ℕ)) → all ≡ [] → IsAboveOfFirst ps 0 all
above_none ps all e = record {
  within = omega arith;
  long = ap length e;
  exact = λ c p. (
    λ h. absurd (not_in_none (subst (λ xs. Contains xs p) (ap (λ xs. slice_index_or xs c []) e ∙ get_or_past [] c [] (omega arith)) h)),
    λ h. absurd (let l = h.0 in omega arith),
  );
}

pub in_longer : (all : List (List ℕ)) (c p : ℕ) → Contains (slice_index_or (all ++ [] ∷ []) c []) p ↔ Contains (slice_index_or all c []) p
in_longer all c p =
    let same = same_list c in (λ h. subst (λ xs. Contains xs p) same h, λ h. subst (λ xs. Contains xs p) (sym same) h)
  where
    same_list : (k : ℕ) → slice_index_or (all ++ [] ∷ []) k [] ≡ slice_index_or all k []
    same_list k = elim (cases_lt k (length all)) [
      | inl h ↦ get_or_append_left all ([] ∷ []) [] k h
      | inr h ↦ elim (cases_eq k (length all)) [
        | inl e ↦ get_or_push all [] [] k (sym e) ∙ sym (get_or_past all k [] h)
        | inr n ↦ get_or_past (all ++ [] ∷ []) k [] (omega (arith, length-append all ([] ∷ []), h, n)) ∙ sym (get_or_past all k [] h)
      ]
    ]

module _ (ps : List Simple) (n : ℕ) (r : Simple) (at : Some r ≡ slice_get ps n) (old new longer : List (List ℕ)) (so_far : IsAboveOfFirst ps n old)
    (long : length new ≡ length old)
    (added : (c p : ℕ) → Contains (slice_index_or new c []) p ↔ (Contains (slice_index_or old c []) p ⊎ ((p ≡ n) × Contains (passed r) c)))
    (more : longer ≡ new ++ [] ∷ []) where
  passes_here : (c p : ℕ) → p ≡ n → Contains (passed r) c → Passes ps c p
  passes_here c p e h = (r, ap (slice_get ps) e ∙ sym at, h)

  here_passes : (c p : ℕ) → p ≡ n → Passes ps c p → Contains (passed r) c
  here_passes c p e h = subst (λ q. Contains (passed q) c) (one_value h.1 (ap (slice_get ps) e ∙ sym at)) h.2

  pub above_more : IsAboveOfFirst ps (n + 1) longer
  above_more = record {
    within = let h = slice_get_within ps n r (sym at) in omega arith;
    long = omega (arith, ap length more, length-append new ([] ∷ []), long, so_far.long);
    exact = λ c p.
        let up = in_longer new c p in (
          λ h. elim ((added c p).0 (up.0 (subst (λ xs. Contains (slice_index_or xs c []) p) more h))) [
            | inl o ↦ let i = (so_far.exact c p).0 o in (omega (arith, i.0), i.1)
            | inr e ↦ (omega (arith, e.0), passes_here c p e.0 e.1)
          ],
          λ h. subst (λ xs. Contains (slice_index_or xs c []) p) (sym more) (up.1 ((added c p).1 (elim (cases_eq p n) [
            | inl e ↦ inr (e, here_passes c p e h.1)
            | inr m ↦ inl ((so_far.exact c p).1 (omega (arith, h.0, m), h.1))
          ]))),
        );
  }

pub above_all : (ps : List Simple) (n : ℕ) (all : List (List ℕ)) → None ≡ slice_get ps n → IsAboveOfFirst ps n all → IsAbove ps all
above_all ps n all at is =
    let past = past_end ps n at in record {
      long = omega (arith, is.long, is.within);
      exact = λ c p. (
        λ h. ((is.exact c p).0 h).1,
        λ h. (is.exact c p).1 (let i = slice_get_within ps p h.0 h.1 in omega arith, h),
      );
    }

-- ---- all rows are in the table

pub children_below : (r : Simple) (n i : ℕ) → AreChildrenBelow n r → Contains (children r) i → i < n
children_below (simple.Attribute class a) n i h c = subst (λ k. k < n) (one_only a.0 i c) h
children_below (simple.List a) n i h c = subst (λ k. k < n) (one_only a.0 i c) h
children_below (simple.DataExcept d a) n i h c = subst (λ k. k < n) (one_only a.0 i c) h
children_below (simple.OneOrMore a) n i h c = subst (λ k. k < n) (one_only a.0 i c) h
children_below (simple.Group a b) n i h c = elim (one_of_two c) [ inl e ↦ omega (arith, e, h.0) | inr e ↦ omega (arith, e, h.1) ]
children_below (simple.Interleave a b) n i h c = elim (one_of_two c) [ inl e ↦ omega (arith, e, h.0) | inr e ↦ omega (arith, e, h.1) ]
children_below (simple.Choice a b) n i h c = elim (one_of_two c) [ inl e ↦ omega (arith, e, h.0) | inr e ↦ omega (arith, e, h.1) ]
children_below simple.NotAllowed n i h c = absurd (not_in_none c)
children_below simple.Empty n i h c = absurd (not_in_none c)
children_below simple.Text n i h c = absurd (not_in_none c)
children_below (simple.Element e) n i h c = absurd (not_in_none c)
children_below (simple.Data d) n i h c = absurd (not_in_none c)
children_below (simple.Value value) n i h c = absurd (not_in_none c)

pub children_in_table : (ps : List Simple) → Falls ps → AreBelow (length ps) (map children ps)
children_in_table ps falls j i c = elim (slice_get_cases ps j).1 [
  | inl f ↦
      let h = slice_get_within ps j f.0 f.2 in
      let own : get_or (map children ps) j [] ≡ children f.0 = get_or-map children ps j f.0 [] h ∙ ap children (get_or_from_slice_get ps j f.0 f.0 f.2) in
      let l = children_below f.0 j i (falls j f.0 f.2) (subst (λ xs. Contains xs i) own c) in omega arith
  | inr f ↦ absurd (not_in_none (subst (λ xs. Contains xs i) (get_or_past (map children ps) j [] (omega (arith, f.1, length-map ps children))) c))
]

pub parts_in_table : (t : Table) → IsTable t → All (λ k. k < length t.patterns) (part_rows t)
parts_in_table t is = All-append (λ k. k < length t.patterns) (map (λ e. e.1.0) t.elements) (t.start.0 ∷ []) (bodies t.elements is.bodies)
    (all_from_members (λ k. k < length t.patterns) (t.start.0 ∷ []) (λ k c. subst (λ n. n < length t.patterns) (one_only t.start.0 k c) is.start))
  where
    bodies : (es : List (NameClass × PatternId)) → All (λ e. e.1.0 < length t.patterns) es → All (λ k. k < length t.patterns) (map (λ e. e.1.0) es)
    bodies es all = All-map (λ k. k < length t.patterns) (λ e. e.1.0) es all

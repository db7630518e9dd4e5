-- A pattern that takes a sequence of items takes its subsequences.
use Rattle.std.proofs.Common.{◌≡◌, ◌⊎◌, ℕ, List, [], ◌∷◌, ◌++◌, ◌&&◌, refl, sym, ◌∙◌, subst, true, ⊎_elim, inl, inr}
use Rattle.std.proofs.lemmas.Bool.{and_parts}
use Rattle.rng_model.specs.simple.Tree.{Simple, choice, group, interleave, s_not_allowed, s_empty, s_text, s_leaf, s_attribute, s_list, s_data, s_data_except}
use Rattle.rng_model.specs.simple.Tree.{s_value, s_one_or_more, s_joined}
use Rattle.rng_model.specs.matching.Document.{Attribute, Item, Items, a_text, an_element, Interleaves, AllTexts, SharesName, text_and}
use Rattle.rng_model.specs.matching.Document as document
use Rattle.rng_model.specs.names.Names.{Name}
use Rattle.rng_model.specs.datatypes.Texts.{is_blank}
use Rattle.rng_model.proofs.OneSidedInterleavings.{left_is_all, right_is_all}
use Rattle.rng_model.specs.matching.GrammarMatching.{Reading}
use Rattle.rng_deriv_laws.specs.plain.Taking.{Takes}
use Rattle.rng_deriv_laws.specs.plain.Taking as t
use Rattle.rng_deriv_laws.specs.plain.Blanks.{IsBare, cons, strings_alone, no_blanks}
use Rattle.rng_deriv_laws.specs.plain.Derivatives.{is_nullable}
use Rattle.rng_deriv_laws.proofs.ListFacts.{bare_cut, bare_left, bare_right}
use Rattle.rng_deriv_laws.proofs.Nullable.{null_out}
use Rattle.rng_deriv_table.specs.plain.Facts.{LosesFirst, has_subsequences}

-- an element that no blank string may follow
nothing_behind : (q : Name) (xs : List Attribute) (kids : Items) (s : List ℕ) → is_blank s ≡ true → IsBare (an_element q xs kids ∷ a_text s ∷ []) → ⊥
nothing_behind q xs kids s b (strings_alone all) = elim all [ ]
nothing_behind q xs kids s b (no_blanks (cons p (cons o rest))) = absurd (cc)

fewer_texts : (n : Item) (ns : List Item) → AllTexts (n ∷ ns) → AllTexts ns
fewer_texts n ns (text_and all) = all

module _ (g : Reading) where
  -- it takes the others without the first item, or there are none and no attributes
  abbrev Loses : Simple ℕ → Type 0
  Loses p = (xs : List Attribute) (n : Item) (ns : List Item) → IsBare (n ∷ ns) → Takes g p xs (n ∷ ns) → Takes g p xs ns ⊎ ((xs ≡ []) × (ns ≡ []))

  by_nullable : (p : Simple ℕ) → is_nullable p ≡ true → Loses p → LosesFirst g p
  by_nullable p e f xs n ns bare d = ⊎_elim (λ h. h) (λ h. rw (h.0, h.1) (null_out g p e)) (f xs n ns bare d)

  -- ---- groups and interleaves of two patterns that may be left out

  first_of_group : (p q : Simple ℕ) → LosesFirst g p → LosesFirst g q → (n : Item) (ns : List Item) → IsBare (n ∷ ns) →
      (xs ys zs : List Attribute) (ms os : List Item) → Takes g p xs ms → Takes g q ys os → Interleaves xs ys zs → ms ++ os ≡ n ∷ ns
      → Takes g (s_joined group p q) zs ns
  first_of_group p q f h n ns bare xs ys zs [] os d e i c = t.grouped d (h ys n ns bare (subst (λ l. Takes g q ys l) c e)) i refl
  first_of_group p q f h n ns bare xs ys zs (o ∷ ms) os d e i c =
      let same : o ≡ n = cc in
      let rest : ms ++ os ≡ ns = cc in
      let part = bare_cut (n ∷ ms) os (subst (λ l. IsBare (n ∷ l)) (sym rest) bare) in
      t.grouped (f xs n ms part.0 (subst (λ o. Takes g p xs (o ∷ ms)) same d)) e i rest

  group_loses : (p q : Simple ℕ) → LosesFirst g p → LosesFirst g q → LosesFirst g (s_joined group p q)
  group_loses p q f h zs n ns bare (t.grouped {xs = xs} {ys = ys} {ms = ms} {ns = os} d e i c) = first_of_group p q f h n ns bare xs ys zs ms os d e i c

  interleave_loses : (p q : Simple ℕ) → LosesFirst g p → LosesFirst g q → LosesFirst g (s_joined interleave p q)
  interleave_loses p q f h zs n ns bare (t.interleaved {xs = xs} d e i (document.left {xs = ms} c)) =
      t.interleaved (f xs n ms (bare_left (document.left c) bare) d) e i c
  interleave_loses p q f h zs n ns bare (t.interleaved {ys = ys} d e i (document.right {ys = os} c)) =
      t.interleaved d (h ys n os (bare_right (document.right c) bare) e) i c

  -- ---- copies

  first_of_copies : (p : Simple ℕ) → Loses p → (n : Item) (ns : List Item) → IsBare (n ∷ ns) →
      (xs ys zs : List Attribute) (ms os : List Item) → Takes g p xs ms → Takes g (s_one_or_more p) ys os → (SharesName xs ys → ⊥)
      → Interleaves xs ys zs → ms ++ os ≡ n ∷ ns
      → (os ≡ n ∷ ns → Takes g (s_one_or_more p) ys ns ⊎ ((ys ≡ []) × (ns ≡ [])))
      → Takes g (s_one_or_more p) zs ns ⊎ ((zs ≡ []) × (ns ≡ []))
  first_of_copies p f n ns bare xs ys zs [] os d e a i c later =
      ⊎_elim
      (λ h. inl (t.again d h a i refl))
      (λ h. inl (t.once (subst (λ l. Takes g p zs l) (sym h.1) (subst (λ l. Takes g p l []) (left_is_all (subst (λ l. Interleaves xs l zs) h.0 i)) d))))
      (later c)
  first_of_copies p f n ns bare xs ys zs (o ∷ ms) os d e a i c later =
      let same : o ≡ n = cc in
      let rest : ms ++ os ≡ ns = cc in
      let part = bare_cut (n ∷ ms) os (subst (λ l. IsBare (n ∷ l)) (sym rest) bare) in
      ⊎_elim
      (λ h. inl (t.again h e a i rest))
      (λ h. inl (subst (λ l. Takes g (s_one_or_more p) l ns) (right_is_all (subst (λ l. Interleaves l ys zs) h.0 i))
      (subst (λ l. Takes g (s_one_or_more p) ys l) (subst (λ l. l ++ os ≡ ns) h.1 rest) e)))
      (f xs n ms part.0 (subst (λ o. Takes g p xs (o ∷ ms)) same d))

  copies_lose : (p : Simple ℕ) → Loses p → (n : Item) (ns : List Item) → IsBare (n ∷ ns) → (xs : List Attribute) (os : List Item)
      → Takes g (s_one_or_more p) xs os → os ≡ n ∷ ns → Takes g (s_one_or_more p) xs ns ⊎ ((xs ≡ []) × (ns ≡ []))
  copies_lose p f n ns bare xs os (t.once d) c =
      ⊎_elim (λ h. inl (t.once h)) (λ h. inr h) (f xs n ns bare (subst (λ l. Takes g p xs l) c d))
  copies_lose p f n ns bare xs os (t.again {xs = us} {ys = vs} {ms = ms} {ns = rest} d e a i b) c =
      first_of_copies p f n ns bare us vs xs ms rest d e a i (b ∙ c) (copies_lose p f n ns bare vs rest e)

  -- ---- all kinds

  loses : (p : Simple ℕ) → has_subsequences p ≡ true → Loses p
  loses s_not_allowed s xs n ns bare d = elim d [ ]
  loses s_empty s xs n ns bare d = elim d [ ]
  loses s_text s xs n ns bare (t.text_is all) = inl (t.text_is (fewer_texts n ns all))
  loses (s_leaf k) s xs n ns bare (t.element_is i w document.alone) = inr (refl, refl)
  loses (s_leaf k) s xs n ns bare (t.element_is i w (document.before b)) = inl (t.element_is i w document.alone)
  loses (s_leaf k) s xs n ns bare (t.element_is i w (document.after b)) = absurd (nothing_behind _ _ _ _ b bare)
  loses (s_leaf k) s xs n ns bare (t.element_is i w (document.both_sides b d)) = inl (t.element_is i w (document.after d))
  loses (s_attribute c p) s xs n ns bare d = elim d [ ]
  loses (s_list p) s xs n ns bare (t.list_is e d) = inr (refl, refl)
  loses (s_data d) s xs n ns bare (t.data_is e) = inr (refl, refl)
  loses (s_data_except d p) s xs n ns bare (t.data_but e f) = inr (refl, refl)
  loses (s_value d v) s xs n ns bare (t.value_is e) = inr (refl, refl)
  loses (s_one_or_more p) s xs n ns bare d = copies_lose p (loses p s) n ns bare xs (n ∷ ns) d refl
  loses (s_joined choice p q) s xs n ns bare (t.first d) =
      let all = and_parts (has_subsequences p) (has_subsequences q) s in
      ⊎_elim (λ h. inl (t.first h)) (λ h. inr h) (loses p all.0 xs n ns bare d)
  loses (s_joined choice p q) s xs n ns bare (t.second d) =
      let all = and_parts (has_subsequences p) (has_subsequences q) s in
      ⊎_elim (λ h. inl (t.second h)) (λ h. inr h) (loses q all.1 xs n ns bare d)
  loses (s_joined group p q) s xs n ns bare d =
      let all = and_parts (is_nullable p && has_subsequences p) (is_nullable q && has_subsequences q) s in
      let one = and_parts (is_nullable p) (has_subsequences p) all.0 in
      let other = and_parts (is_nullable q) (has_subsequences q) all.1 in
      inl (group_loses p q (by_nullable p one.0 (loses p one.1)) (by_nullable q other.0 (loses q other.1)) xs n ns bare d)
  loses (s_joined interleave p q) s xs n ns bare d =
      let all = and_parts (is_nullable p && has_subsequences p) (is_nullable q && has_subsequences q) s in
      let one = and_parts (is_nullable p) (has_subsequences p) all.0 in
      let other = and_parts (is_nullable q) (has_subsequences q) all.1 in
      inl (interleave_loses p q (by_nullable p one.0 (loses p one.1)) (by_nullable q other.0 (loses q other.1)) xs n ns bare d)

  pub loses_first : (p : Simple ℕ) → is_nullable p ≡ true → has_subsequences p ≡ true → LosesFirst g p
  loses_first p e s = by_nullable p e (loses p s)

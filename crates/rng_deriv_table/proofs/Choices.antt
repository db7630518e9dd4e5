-- The alternatives of a choice are those of its members, and a pattern takes what one of its alternatives takes.
use Rattle.std.proofs.Common.{◌≡◌, ◌⊎◌, ◌↔◌, ℕ, zero, suc, ◌+◌, ◌<◌, List, [], ◌∷◌, ◌++◌, length, take, get_or, map, refl, sym, subst, ⊎_elim, inl}
use Rattle.std.proofs.Common.{inr, arith, All, Contains, Result, Ok, Err, IfOk}
use Rattle.std.proofs.lemmas.List.{append-nil, take_more}
use Rattle.std.proofs.lemmas.List.Elements.{Contains-get_or, Contains-append_left, Contains-append_right, Contains-append_cases}
use Rattle.rng_model.specs.simple.Tree.{Simple, choice, group, interleave, s_not_allowed, s_empty, s_text, s_leaf, s_attribute, s_list, s_data, s_data_except}
use Rattle.rng_model.specs.simple.Tree.{s_value, s_one_or_more, s_joined}
use Rattle.rng_model.specs.matching.Document.{Attribute, Item}
use Rattle.rng_model.specs.matching.GrammarMatching.{Reading}
use Rattle.rng_deriv_laws.specs.plain.Taking.{Takes}
use Rattle.rng_deriv_laws.specs.plain.Taking as t
use Rattle.rng_deriv_table.specs.plain.Reduced.{HasAlternative}
use Rattle.rng_deriv_table.specs.views.Choices.{IsAlternativeOf, SomeTakes}
use Rattle.rng_deriv_table.specs.views.Trees.{choice_over}
use Rattle.rng_deriv_table.specs.declared.pattern.PatternNumber.{PatternNumber}

abbrev pub numbers : List PatternNumber → List ℕ
numbers ms = map (λ (m : PatternNumber). m.0) ms

pub only_one : (m n : PatternNumber) → Contains (m ∷ []) n → m ≡ n
only_one m n (zero, h, e) = e
only_one m n (suc i, h, e) = absurd (omega (arith, h))

module _ (tree : ℕ → Simple ℕ) where
  -- ---- lists

  pub of_one : (m : PatternNumber) (s : Simple ℕ) → IsAlternativeOf tree (m ∷ []) s ↔ HasAlternative (tree m.0) s
  of_one m s = (
    λ h. let P : PatternNumber → Type 0 = λ n. HasAlternative (tree n.0) s in subst P (sym (only_one m h.0 h.1)) h.2,
    λ a. (m, Contains-get_or (m ∷ []) 0 m (omega arith), a),
  )

  pub of_both : (ms ns : List PatternNumber) (s : Simple ℕ) → IsAlternativeOf tree (ms ++ ns) s ↔ (IsAlternativeOf tree ms s ⊎ IsAlternativeOf tree ns s)
  of_both ms ns s = (
    λ h. ⊎_elim (λ l. inl (h.0, l, h.2)) (λ r. inr (h.0, r, h.2)) (Contains-append_cases ms ns h.0 h.1),
    λ d. ⊎_elim (λ h. (h.0, Contains-append_left ms ns h.0 h.1, h.2)) (λ h. (h.0, Contains-append_right ms ns h.0 h.1, h.2)) d,
  )

  pub of_none : (s : Simple ℕ) → IsAlternativeOf tree [] s → ⊥
  of_none s h = let inside = h.1.1 in omega (arith, inside)

  -- ---- a choice

  pub of_choice : (ms : List PatternNumber) (s : Simple ℕ) → HasAlternative (choice_over tree (numbers ms)) s ↔ IsAlternativeOf tree ms s
  of_choice [] s = (λ h. absurd h, λ h. of_none s h)
  of_choice (m ∷ []) s = ((of_one m s).1, (of_one m s).0)
  of_choice (m ∷ n ∷ ms) s =
      let rest = of_choice (n ∷ ms) s in
      let parts = of_both (m ∷ []) (n ∷ ms) s in (
        λ d. parts.1 (⊎_elim (λ h. inl ((of_one m s).1 h)) (λ h. inr (rest.0 h)) d),
        λ h. ⊎_elim (λ a. inl ((of_one m s).0 a)) (λ a. inr (rest.1 a)) (parts.0 h),
      )

  -- ---- one more member

  -- the alternatives with those that a member adds
  pub with_added : (all added more : List PatternNumber) (m : PatternNumber) (s : Simple ℕ) → more ≡ all ++ added
      → IsAlternativeOf tree added s ↔ HasAlternative (tree m.0) s → IsAlternativeOf tree more s ↔ (IsAlternativeOf tree all s ⊎ HasAlternative (tree m.0) s)
  with_added all added more m s longer own =
      let parts = of_both all added s in
      let Has : List PatternNumber → Type 0 = λ xs. IsAlternativeOf tree xs s in (
        λ h. ⊎_elim (λ a. inl a) (λ a. inr (own.0 a)) (parts.0 (subst Has longer h)),
        λ d. subst Has (sym longer) (parts.1 (⊎_elim (λ a. inl a) (λ a. inr (own.1 a)) d)),
      )

  pub none_added : (all : List PatternNumber) (m : PatternNumber) (s : Simple ℕ) → tree m.0 ≡ s_not_allowed
      → IsAlternativeOf tree all s ↔ (IsAlternativeOf tree all s ⊎ HasAlternative (tree m.0) s)
  none_added all m s e = with_added all [] all m s (sym (append-nil all)) (λ h. absurd (of_none s h), λ h. absurd (subst (λ p. HasAlternative p s) e h))

  pub one_added : (all more : List PatternNumber) (m : PatternNumber) (s : Simple ℕ) → more ≡ all ++ m ∷ []
      → IsAlternativeOf tree more s ↔ (IsAlternativeOf tree all s ⊎ HasAlternative (tree m.0) s)
  one_added all more m s longer = with_added all (m ∷ []) more m s longer (of_one m s)

  pub choice_added : (all ms more : List PatternNumber) (m : PatternNumber) (s : Simple ℕ) → more ≡ all ++ ms → tree m.0 ≡ choice_over tree (numbers ms)
      → IsAlternativeOf tree more s ↔ (IsAlternativeOf tree all s ⊎ HasAlternative (tree m.0) s)
  choice_added all ms more m s longer e =
      let own = of_choice ms s in
      with_added all ms more m s longer (λ h. subst (λ p. HasAlternative p s) (sym e) (own.1 h), λ h. own.0 (subst (λ p. HasAlternative p s) e h))

  -- one more of the members is visited
  pub member_more : (all more ms : List PatternNumber) (i : ℕ) (d : PatternNumber) (s : Simple ℕ) → i < length ms
      → IsAlternativeOf tree more s ↔ (IsAlternativeOf tree all s ⊎ HasAlternative (tree (get_or ms i d).0) s)
      → IsAlternativeOf tree all s ↔ IsAlternativeOf tree (take i ms) s → IsAlternativeOf tree more s ↔ IsAlternativeOf tree (take (i + 1) ms) s
  member_more all more ms i d s inside joined kept =
      let member = get_or ms i d in
      let step : take (i + 1) ms ≡ take i ms ++ member ∷ [] = take_more ms i d inside in
      let parts = of_both (take i ms) (member ∷ []) s in
      let one = of_one member s in
      let Has : List PatternNumber → Type 0 = λ xs. IsAlternativeOf tree xs s in (
        λ h. subst Has (sym step) (parts.1 (⊎_elim (λ a. inl (kept.0 a)) (λ a. inr (one.1 a)) (joined.0 h))),
        λ h. joined.1 (⊎_elim (λ a. inl (kept.1 a)) (λ a. inr (one.0 a)) (parts.0 (subst Has step h))),
      )

  -- lists of the same patterns
  pub as_sets : (ms ns : List PatternNumber) (s : Simple ℕ) → ((m : PatternNumber) → Contains ms m → Contains ns m) → IsAlternativeOf tree ms s
      → IsAlternativeOf tree ns s
  as_sets ms ns s within h = (h.0, within h.0 h.1, h.2)

pub all_within : (P : PatternNumber → Type 0) (ms ns : List PatternNumber) → ((m : PatternNumber) → Contains ns m → Contains ms m) → All P ms → All P ns
all_within P ms ns within all k d inside =
    let x = get_or ns k d in let there = within x (Contains-get_or ns k d inside) in subst P there.2 (all there.0 x there.1)

-- ---- what they take

module _ (g : Reading) where
  record Found (p : Simple ℕ) (xs : List Attribute) (ns : List Item) : Type 0 where
    pub tree : Simple ℕ
    pub among : HasAlternative p tree
    pub takes : Takes g tree xs ns

  found_in : (p : Simple ℕ) (xs : List Attribute) (ns : List Item) → Takes g p xs ns → Found p xs ns
  found_in s_not_allowed xs ns d = elim d [ ]
  found_in s_empty xs ns d = record { tree = s_empty; among = refl; takes = d }
  found_in s_text xs ns d = record { tree = s_text; among = refl; takes = d }
  found_in (s_leaf k) xs ns d = record { tree = s_leaf k; among = refl; takes = d }
  found_in (s_attribute c p) xs ns d = record { tree = s_attribute c p; among = refl; takes = d }
  found_in (s_list p) xs ns d = record { tree = s_list p; among = refl; takes = d }
  found_in (s_data e) xs ns d = record { tree = s_data e; among = refl; takes = d }
  found_in (s_data_except e p) xs ns d = record { tree = s_data_except e p; among = refl; takes = d }
  found_in (s_value e v) xs ns d = record { tree = s_value e v; among = refl; takes = d }
  found_in (s_one_or_more p) xs ns d = record { tree = s_one_or_more p; among = refl; takes = d }
  found_in (s_joined choice p q) xs ns (t.first d) = let f = found_in p xs ns d in record { tree = f.tree; among = inl f.among; takes = f.takes }
  found_in (s_joined choice p q) xs ns (t.second d) = let f = found_in q xs ns d in record { tree = f.tree; among = inr f.among; takes = f.takes }
  found_in (s_joined group p q) xs ns d = record { tree = s_joined group p q; among = refl; takes = d }
  found_in (s_joined interleave p q) xs ns d = record { tree = s_joined interleave p q; among = refl; takes = d }

  by_alternative : (p s : Simple ℕ) (xs : List Attribute) (ns : List Item) → HasAlternative p s → Takes g s xs ns → Takes g p xs ns
  by_alternative s_not_allowed s xs ns h d = absurd h
  by_alternative (s_joined choice p q) s xs ns h d = ⊎_elim (λ a. t.first (by_alternative p s xs ns a d)) (λ a. t.second (by_alternative q s xs ns a d)) h
  by_alternative s_empty s xs ns h d = subst (λ p. Takes g p xs ns) h d
  by_alternative s_text s xs ns h d = subst (λ p. Takes g p xs ns) h d
  by_alternative (s_leaf k) s xs ns h d = subst (λ p. Takes g p xs ns) h d
  by_alternative (s_attribute c p) s xs ns h d = subst (λ p. Takes g p xs ns) h d
  by_alternative (s_list p) s xs ns h d = subst (λ p. Takes g p xs ns) h d
  by_alternative (s_data e) s xs ns h d = subst (λ p. Takes g p xs ns) h d
  by_alternative (s_data_except e p) s xs ns h d = subst (λ p. Takes g p xs ns) h d
  by_alternative (s_value e v) s xs ns h d = subst (λ p. Takes g p xs ns) h d
  by_alternative (s_one_or_more p) s xs ns h d = subst (λ p. Takes g p xs ns) h d
  by_alternative (s_joined group p q) s xs ns h d = subst (λ p. Takes g p xs ns) h d
  by_alternative (s_joined interleave p q) s xs ns h d = subst (λ p. Takes g p xs ns) h d

  -- a pattern with the alternatives of these takes what one of them does
  pub takes_some : (tree : ℕ → Simple ℕ) (ms : List PatternNumber) (p : Simple ℕ) → ((s : Simple ℕ) → HasAlternative p s ↔ IsAlternativeOf tree ms s)
      → (xs : List Attribute) (ns : List Item) → Takes g p xs ns ↔ SomeTakes g tree ms xs ns
  takes_some tree ms p has xs ns = (
    λ d. let f = found_in p xs ns d in let a = (has f.tree).0 f.among in (a.0, a.1, by_alternative (tree a.0.0) f.tree xs ns a.2 f.takes),
    λ d. let f = found_in (tree d.0.0) xs ns d.2 in by_alternative p f.tree xs ns ((has f.tree).1 (d.0, d.1, f.among)) f.takes,
  )

  -- patterns whose alternatives are among those of others take no more than these
  pub takes_within : (tree : ℕ → Simple ℕ) (ms ks : List PatternNumber) → ((s : Simple ℕ) → IsAlternativeOf tree ms s → IsAlternativeOf tree ks s)
      → (xs : List Attribute) (ns : List Item) → SomeTakes g tree ms xs ns → SomeTakes g tree ks xs ns
  takes_within tree ms ks within xs ns d =
      let f = found_in (tree d.0.0) xs ns d.2 in
      let a = within f.tree (d.0, d.1, f.among) in (a.0, a.1, by_alternative (tree a.0.0) f.tree xs ns a.2 f.takes)

pub both_ok : {X E : Type 0} (r : Result X E) (P Q R : X → Type 0) → ((x : X) → P x → Q x → R x) → IfOk r P → IfOk r Q → IfOk r R
both_ok (Ok x) P Q R f h k = f x h k
both_ok (Err e) P Q R f h k = tt

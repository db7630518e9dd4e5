-- Marks of characters that are in the same classes as the one before them.
use Rattle.std.proofs.Common.{◌≡◌, ◌≢◌, ◌∙◌, ◌<◌, ◌≤◌, ◌+◌, ◌-◌, ◌==◌, ℕ, zero, suc, List, [], ◌∷◌, ◌++◌, length, map, cond, Bool}
use Rattle.std.proofs.Common.{true, false, true≢false, refl, sym, ap, subst, get_or, set, inl, inr, arith}
use Rattle.std.proofs.Common.{eq-eqb, eqb-true}
use Rattle.std.proofs.lemmas.Bool.{cases_lt}
use Rattle.std.proofs.lemmas.List.{get_or-set_other, get_or_past}
use Rattle.rng_model.specs.regexes.Expressions.{Class, no_char, holds}
use Rattle.xsd_regex.specs.plain.Positions as plain
use Rattle.xsd_positions.specs.declared.position.Part.{Part}
use Rattle.xsd_positions.specs.declared.position.Part.TheVariants as part
use Rattle.xsd_positions.specs.declared.position.Position.{Position}
use Rattle.xsd_positions.specs.views.Positions.{part_of, position_of}
use Rattle.xsd_positions.specs.views.Positions.{class_at}
use Rattle.xsd_automaton.specs.plain.Closures.{IsClosed, next_of, next_at, nexts, AcceptsFrom, StepsTo}
use Rattle.xsd_automaton.specs.plain.Sets.{AreAlike, HasTarget, no_target, to_set, members_at}
use Rattle.xsd_automaton.proofs.Edges.{behind_char}

unset : (xs : List Bool) (n : ℕ) → get_or (set xs n false) n false ≡ false
unset [] n = refl
unset (x ∷ xs) zero = refl
unset (x ∷ xs) (suc n) = unset xs n

-- a mark that is left was there, and is another one
pub left_mark : (xs : List Bool) (n j : ℕ) → get_or (set xs n false) j false ≡ true → (get_or xs j false ≡ true) × (j ≢ n)
left_mark xs n j e = by (j == n) refl where
  by : (b : Bool) → (j == n) ≡ b → (get_or xs j false ≡ true) × (j ≢ n)
  by true same = absurd (true≢false (sym e ∙ ap (λ k. get_or (set xs n false) k false) (eqb-true j n same) ∙ unset xs n))
  by false other =
      let apart : j ≢ n = λ s. true≢false (sym (eq-eqb j n s) ∙ other) in
      (sym (get_or-set_other xs n j false false apart) ∙ e, apart)

module _ (held : ℕ → Bool) (marks : List Bool) (n : ℕ)
    (marked : (j : ℕ) → j < n → get_or marks j false ≡ true → held j ≡ held (j - 1)) where
  -- the character has no mark now
  pub mark_taken : (m : ℕ) → m ≡ n → (j : ℕ) → j < n + 1 → get_or (set marks m false) j false ≡ true → held j ≡ held (j - 1)
  mark_taken m same j lt e =
      let left = left_mark marks m j e in
      let apart : j ≢ n = λ s. left.1 (s ∙ sym same) in
      marked j (omega (arith, lt, apart)) left.0

  -- the character is in the class exactly if the one before it is
  pub mark_kept : held n ≡ held (n - 1) → (j : ℕ) → j < n + 1 → get_or marks j false ≡ true → held j ≡ held (j - 1)
  mark_kept same j lt e =
      elim (cases_lt j n) [
        | inl h ↦ marked j h e
        | inr h ↦ let at : j ≡ n = omega (arith, lt, h) in ap held at ∙ same ∙ ap (λ k. held (k - 1)) (sym at)
      ]

-- past the marks there is none
pub all_marks : (held : ℕ → Bool) (marks : List Bool) (n : ℕ) → length marks ≤ n
    → ((j : ℕ) → j < n → get_or marks j false ≡ true → held j ≡ held (j - 1))
    → (j : ℕ) → get_or marks j false ≡ true → held j ≡ held (j - 1)
all_marks held marks n short marked j e =
    elim (cases_lt j n) [
      | inl h ↦ marked j h e
      | inr h ↦ absurd (true≢false (sym e ∙ get_or_past marks j false (omega (arith, h, short))))
    ]

-- ---- the positions behind characters in the same classes

module _ (ks : List Class) (c d : ℕ) (alike : (n : ℕ) → n < length ks → holds (class_at ks n) c ≡ holds (class_at ks n) d) where
  each_alike : (n : ℕ) → holds (class_at ks n) c ≡ holds (class_at ks n) d
  each_alike n =
      elim (cases_lt n (length ks)) [
        | inl lt ↦ alike n lt
        | inr past ↦ let none = get_or_past ks n no_char past in ap (λ k. holds k c) none ∙ sym (ap (λ k. holds k d) none)
      ]

  part_alike : (q : Part) (x : ℕ) → next_of c (part_of ks q) x ≡ next_of d (part_of ks q) x
  part_alike part.Nothing x = refl
  part_alike (part.OneOf n) x = ap (λ b. cond b (x ∷ []) []) (each_alike n)
  part_alike part.Never x = refl
  part_alike (part.Both l) x = refl
  part_alike (part.Either l) x = refl
  part_alike part.Optional x = refl
  part_alike part.Repeated x = refl

  pub next_alike : (ps : List Position) (i : ℕ) → next_at (map (position_of ks) ps) c i ≡ next_at (map (position_of ks) ps) d i
  next_alike [] i = refl
  next_alike (p ∷ ps) zero = part_alike p.part p.next
  next_alike (p ∷ ps) (suc i) = next_alike ps i

-- ---- the sets behind them

module _ (ps : List plain.Position) (c d : ℕ) (alike : AreAlike ps c d) where
  nexts_alike : (is : List ℕ) → nexts ps c is ≡ nexts ps d is
  nexts_alike [] = refl
  nexts_alike (i ∷ is) = ap (λ l. l ++ nexts ps c is) (alike i) ∙ ap (λ l. next_at ps d i ++ l) (nexts_alike is)

  step_alike : (is js : List ℕ) → IsClosed ps is → StepsTo ps d is js → StepsTo ps c is js
  step_alike is js closed steps states are s =
      let by_c = behind_char ps c is closed states are s in
      let by_d = behind_char ps d is closed states are s in
      let by_js = steps states are s in (
        λ h. by_js.0 (by_d.1 (subst (λ l. AcceptsFrom states l s) (nexts_alike is) (by_c.0 h))),
        λ h. by_c.1 (subst (λ l. AcceptsFrom states l s) (sym (nexts_alike is)) (by_d.0 (by_js.1 h))),
      )

  pub target_alike : (sets : List (List ℕ)) (is : List ℕ) (t : ℕ) → IsClosed ps is → HasTarget ps sets is d t → HasTarget ps sets is c t
  target_alike sets is t closed (no_target e) = no_target e
  target_alike sets is t closed (to_set lt steps) = to_set lt (step_alike is (members_at sets t) closed steps)

-- A text is accepted exactly if a form of the state has the first character and the rest accepts the rest.
use Rattle.std.proofs.Common.{◌≡◌, ◌≤◌, ◌⊎◌, ◌↔◌, ◌∙◌, ℕ, zero, suc, ◌-◌, List, [], ◌∷◌, ◌++◌, true, false, ◌==◌}
use Rattle.std.proofs.Common.{Option, Some, None, IfSome, refl, sym, ap, subst, inl, inr, arith}
use Rattle.std.proofs.Common.{eq-eqb, eqb-true}
use Rattle.std.proofs.lemmas.Bool.{false_from_ne_true}
use Rattle.std.proofs.lemmas.List.{append_assoc}
use Rattle.rng_model.proofs.Truths.{not_both}
use Rattle.rng_model.specs.regexes.Expressions.{Regex, nothing_more, one_of, both, either, times, Denotes, one_is, both_are, first_is, second_is, so_often}
use Rattle.rng_model.specs.regexes.Expressions.{AreCopies, no_copy, copy_and}
use Rattle.rng_model.specs.regexes.plain.LinearForms.{is_nullable, one_less, is_none_left, forms_of, forms, RegexState, AcceptsState, next_is, OneOf, Takes}
use Rattle.xsd_regex.proofs.OneOf.{in_first, in_second, of_both, under_in, under_out, unless_in, unless_out}
use Rattle.xsd_regex.proofs.Nullable.{nullable_if, nullable_then}

-- ---- where the first character is

-- a text in two parts has its first character in the first one, if that is not empty
pub record HeadIn (c : ℕ) (s u v : List ℕ) : Type 0 where
  pub rest : List ℕ
  pub first : u ≡ c ∷ rest
  pub parts : s ≡ rest ++ v

pub head_in : (c : ℕ) (s u v : List ℕ) → c ∷ s ≡ u ++ v → ((u ≡ []) × (v ≡ c ∷ s)) ⊎ HeadIn c s u v
head_in c s [] v e = inl (refl, sym e)
head_in c s (d ∷ u) v e = inr (record { rest = u; first = cc; parts = cc })

-- the first copy that is not empty; the empty ones may as well come behind it
pub record FirstCopy (a : Regex) (n c : ℕ) (s : List ℕ) : Type 0 where
  pub others : ℕ
  pub front : List ℕ
  pub back : List ℕ
  pub one_more : n ≡ suc others
  pub first : Denotes a (c ∷ front)
  pub then : AreCopies a others back
  pub parts : s ≡ front ++ back

pub first_copy : {a : Regex} {n : ℕ} {t : List ℕ} (c : ℕ) (s : List ℕ) → AreCopies a n t → c ∷ s ≡ t → FirstCopy a n c s
first_copy c s no_copy e = absurd (cc)
first_copy {a} c s (copy_and {n} {s = u} {t = v} m copies e) is =
    elim (head_in c s u v (is ∙ e)) [
      | inl h ↦ later h.0 (first_copy c s copies (sym h.1))
      | inr h ↦ record { others = n; front = h.rest; back = v; one_more = refl; first = subst (Denotes a) h.first m; then = copies; parts = h.parts }
    ]
  where
    later : u ≡ [] → FirstCopy a n c s → FirstCopy a (suc n) c s
    later none f =
        let copies_then : AreCopies a n f.back = subst (λ i. AreCopies a i f.back) (sym f.one_more) (copy_and (subst (Denotes a) none m) f.then refl) in
        record { others = n; front = f.front; back = f.back; one_more = refl; first = f.first; then = copies_then; parts = f.parts }

-- ---- counts

pub some_left : (n : ℕ) (m : Option ℕ) → IfSome m (λ x. suc n ≤ x) → is_none_left m ≡ false
some_left n None h = refl
some_left n (Some zero) h = absurd (omega (arith, h))
some_left n (Some (suc x)) h = false_from_ne_true (suc x == 0) (λ e. let z = eqb-true (suc x) 0 e in omega (arith, z))

pub fewer : (n : ℕ) (m : Option ℕ) → IfSome m (λ x. suc n ≤ x) → IfSome (one_less m) (λ x. n ≤ x)
fewer n None h = tt
fewer n (Some x) h = omega (arith, h)

pub more : (n : ℕ) (m : Option ℕ) → is_none_left m ≡ false → IfSome (one_less m) (λ x. n ≤ x) → IfSome m (λ x. suc n ≤ x)
more n None e h = tt
more n (Some zero) e h = absurd (not_both (eq-eqb 0 0 refl) e)
more n (Some (suc x)) e h = omega (arith, h)

-- ---- the forms of an expression

module _ (c : ℕ) where
  pub forms_if : (r : Regex) (k : RegexState) (u v s : List ℕ) → Denotes r (c ∷ u) → AcceptsState k v → s ≡ u ++ v → OneOf (Takes c s) (forms_of r k)
  unfolding forms_of
  forms_if nothing_more k u v s m a e = elim m [ ]
  forms_if (one_of l) k _ v s (one_is h) a e = inl (h, subst (AcceptsState k) (sym e) a)
  forms_if (both p q) k u v s (both_are {s = x} {t = y} mp mq e) a parts =
      elim (head_in c u x y e) [
        | inl h ↦ in_second _ (forms_of p (q ∷ k)) _ (under_in _ _ (forms_of q k) (nullable_if p (subst (Denotes p) h.0 mp))
            (forms_if q k u v s (subst (Denotes q) h.1 mq) a parts))
        | inr h ↦ in_first _ (forms_of p (q ∷ k)) _ (forms_if p (q ∷ k) h.rest (y ++ v) s (subst (Denotes p) h.first mp) (next_is mq a refl)
            (parts ∙ ap (λ l. l ++ v) h.parts ∙ append_assoc h.rest y v))
      ]
  forms_if (either p q) k u v s (first_is m) a parts = in_first _ (forms_of p k) _ (forms_if p k u v s m a parts)
  forms_if (either p q) k u v s (second_is m) a parts = in_second _ (forms_of p k) _ (forms_if q k u v s m a parts)
  forms_if (times l m p) k u v s (so_often n copies least most) a parts =
      let f : FirstCopy p n c u = first_copy c u copies refl in
      let most' : IfSome m (λ x. suc f.others ≤ x) = subst (λ i. IfSome m (λ x. i ≤ x)) f.one_more most in
      unless_in _ (is_none_left m) _ (some_left f.others m most')
      (forms_if p (times (l - 1) (one_less m) p ∷ k) f.front (f.back ++ v) s f.first
      (next_is (so_often f.others f.then (omega (arith, least, f.one_more)) (fewer f.others m most')) a refl)
      (parts ∙ ap (λ l. l ++ v) f.parts ∙ append_assoc f.front f.back v))

  -- ---- and back

  pub both_back : {p q : Regex} {k : RegexState} {s : List ℕ} → AcceptsState (p ∷ q ∷ k) s → AcceptsState (both p q ∷ k) s
  both_back (next_is {s = u} mp (next_is {s = x} {t = y} mq a e) parts) =
      next_is (both_are mp mq refl) a (parts ∙ ap (λ l. u ++ l) e ∙ sym (append_assoc u x y))

  pub second_back : {p q : Regex} {k : RegexState} {s : List ℕ} → is_nullable p ≡ true → AcceptsState (q ∷ k) s → AcceptsState (both p q ∷ k) s
  second_back {p} e (next_is m a parts) = next_is (both_are (nullable_then p e) m refl) a parts

  pub left_back : {p q : Regex} {k : RegexState} {s : List ℕ} → AcceptsState (p ∷ k) s → AcceptsState (either p q ∷ k) s
  left_back (next_is m a parts) = next_is (first_is m) a parts

  pub right_back : {p q : Regex} {k : RegexState} {s : List ℕ} → AcceptsState (q ∷ k) s → AcceptsState (either p q ∷ k) s
  right_back (next_is m a parts) = next_is (second_is m) a parts

  pub times_back : (l : ℕ) (m : Option ℕ) {p : Regex} {k : RegexState} {s : List ℕ} → is_none_left m ≡ false
      → AcceptsState (p ∷ times (l - 1) (one_less m) p ∷ k) s → AcceptsState (times l m p ∷ k) s
  times_back l m h (next_is {s = u} mp (next_is {s = x} {t = y} (so_often n copies least most) a e) parts) =
      next_is (so_often (suc n) (copy_and mp copies refl) (omega (arith, least)) (more n m h most)) a (parts ∙ ap (λ l. u ++ l) e ∙ sym (append_assoc u x y))

  pub forms_then : (r : Regex) (k : RegexState) (s : List ℕ) → OneOf (Takes c s) (forms_of r k) → AcceptsState (r ∷ k) (c ∷ s)
  unfolding forms_of
  forms_then nothing_more k s h = absurd h
  forms_then (one_of l) k s (inl h) = next_is (one_is h.0) h.1 refl
  forms_then (one_of l) k s (inr h) = absurd h
  forms_then (both p q) k s h =
      elim (of_both _ (forms_of p (q ∷ k)) _ h) [
        | inl a ↦ both_back (forms_then p (q ∷ k) s a)
        | inr b ↦ let t = under_out _ (is_nullable p) _ b in second_back t.0 (forms_then q k s t.1)
      ]
  forms_then (either p q) k s h =
      elim (of_both _ (forms_of p k) _ h) [ inl a ↦ left_back (forms_then p k s a) | inr b ↦ right_back (forms_then q k s b) ]
  forms_then (times l m p) k s h =
      let t = unless_out _ (is_none_left m) _ h in times_back l m t.0 (forms_then p (times (l - 1) (one_less m) p ∷ k) s t.1)

  -- ---- the forms of a state

  pub state_forms_if : (k : RegexState) (s : List ℕ) → AcceptsState k (c ∷ s) → OneOf (Takes c s) (forms k)
  unfolding forms
  state_forms_if [] s a = elim a [ ]
  state_forms_if (r ∷ k) s (next_is {s = u} {t = v} m a e) =
      elim (head_in c s u v e) [
        | inl h ↦ in_second _ (forms_of r k) _ (under_in _ _ (forms k) (nullable_if r (subst (Denotes r) h.0 m))
            (state_forms_if k s (subst (AcceptsState k) h.1 a)))
        | inr h ↦ in_first _ (forms_of r k) _ (forms_if r k h.rest v s (subst (Denotes r) h.first m) a h.parts)
      ]

  pub state_forms_then : (k : RegexState) (s : List ℕ) → OneOf (Takes c s) (forms k) → AcceptsState k (c ∷ s)
  unfolding forms
  state_forms_then [] s h = absurd h
  state_forms_then (r ∷ k) s h =
      elim (of_both _ (forms_of r k) _ h) [
        | inl a ↦ forms_then r k s a
        | inr b ↦ let t = under_out _ (is_nullable r) _ b in next_is (nullable_then r t.0) (state_forms_then k s t.1) refl
      ]

  pub taken_by_forms : (k : RegexState) (s : List ℕ) → AcceptsState k (c ∷ s) ↔ OneOf (Takes c s) (forms k)
  taken_by_forms k s = (state_forms_if k s, state_forms_then k s)

-- An expression matches the empty text exactly if it is nullable.
use Rattle.std.proofs.Common.{◌≡◌, ◌≤◌, ◌⊎◌, ◌↔◌, ℕ, zero, suc, List, [], ◌∷◌, ◌++◌, true, ◌||◌, ◌==◌}
use Rattle.std.proofs.Common.{Option, Some, None, IfSome, refl, sym, subst, inl, inr, arith}
use Rattle.std.proofs.Common.{eq-eqb, eqb-true, le-leb, leb-true}
use Rattle.std.proofs.lemmas.Bool.{and_from, and_parts, or_left, or_right, or_cases}
use Rattle.rng_model.specs.regexes.Expressions.{Regex, nothing_more, one_of, both, either, times, Denotes, nothing_is, both_are, first_is, second_is, so_often}
use Rattle.rng_model.specs.regexes.Expressions.{AreCopies, no_copy, copy_and}
use Rattle.rng_model.specs.regexes.plain.LinearForms.{is_at_most, is_nullable, ends, RegexState, AcceptsState, nothing_left, next_is}

-- the parts of the empty text
pub none_before : (s t : List ℕ) → [] ≡ s ++ t → s ≡ []
none_before [] t e = refl
none_before (c ∷ s) t e = absurd (cc)

pub none_behind : (s t : List ℕ) → [] ≡ s ++ t → t ≡ []
none_behind [] t e = sym e
none_behind (c ∷ s) t e = absurd (cc)

-- ---- copies

pub empty_copies : {a : Regex} → Denotes a [] → (n : ℕ) → AreCopies a n []
empty_copies m zero = no_copy
empty_copies m (suc n) = copy_and m (empty_copies m n) refl

pub none_or_empty : {a : Regex} {n : ℕ} → AreCopies a n [] → (n ≡ 0) ⊎ Denotes a []
none_or_empty no_copy = inl refl
none_or_empty {a} (copy_and {s} {t} m rest e) = inr (subst (Denotes a) (none_before s t e) m)

pub at_most : (l n : ℕ) (m : Option ℕ) → l ≤ n → IfSome m (λ x. n ≤ x) → is_at_most l m ≡ true
at_most l n None h e = refl
at_most l n (Some x) h e = le-leb l x (omega (arith, h, e))

pub least_fits : (l : ℕ) (m : Option ℕ) → is_at_most l m ≡ true → IfSome m (λ x. l ≤ x)
least_fits l None e = tt
least_fits l (Some x) e = leb-true l x e

pub none_fits : (m : Option ℕ) → IfSome m (λ x. 0 ≤ x)
none_fits None = tt
none_fits (Some x) = omega arith

none_needed : (l : ℕ) → (l == 0) ≡ true → l ≤ 0
none_needed l z = omega (arith, eqb-true l 0 z)

-- ---- expressions

pub nullable_if : (r : Regex) → Denotes r [] → is_nullable r ≡ true
unfolding is_nullable
nullable_if nothing_more m = refl
nullable_if (one_of k) m = elim m [ ]
nullable_if (both a b) (both_are {s} {t} p q e) =
    and_from _ _ (nullable_if a (subst (Denotes a) (none_before s t e) p)) (nullable_if b (subst (Denotes b) (none_behind s t e) q))
nullable_if (either a b) (first_is p) = or_left _ _ (nullable_if a p)
nullable_if (either a b) (second_is p) = or_right _ _ (nullable_if b p)
nullable_if (times l m a) (so_often n copies least most) =
    and_from _ _ (at_most l n m least most)
    (elim (none_or_empty copies) [ inl e ↦ or_left _ _ (eq-eqb l 0 (omega (arith, least, e))) | inr p ↦ or_right _ _ (nullable_if a p) ])

pub nullable_then : (r : Regex) → is_nullable r ≡ true → Denotes r []
unfolding is_nullable
nullable_then nothing_more e = nothing_is
nullable_then (one_of k) e = absurd (cc)
nullable_then (both a b) e = let h = and_parts _ _ e in both_are (nullable_then a h.0) (nullable_then b h.1) refl
nullable_then (either a b) e = elim (or_cases _ _ e) [ inl h ↦ first_is (nullable_then a h) | inr h ↦ second_is (nullable_then b h) ]
nullable_then (times l m a) e =
    let h = and_parts (is_at_most l m) (l == 0 || is_nullable a) e in
    elim (or_cases (l == 0) (is_nullable a) h.1) [
      | inl z ↦ so_often 0 no_copy (none_needed l z) (none_fits m)
      | inr p ↦ so_often l (empty_copies (nullable_then a p) l) (omega arith) (least_fits l m h.0)
    ]

pub empty_matched : (r : Regex) → Denotes r [] ↔ (is_nullable r ≡ true)
empty_matched r = (nullable_if r, nullable_then r)

-- ---- states

pub ends_if : (k : RegexState) → AcceptsState k [] → ends k ≡ true
ends_if [] a = refl
ends_if (r ∷ k) (next_is {s} {t} p q e) =
    and_from _ _ (nullable_if r (subst (Denotes r) (none_before s t e) p)) (ends_if k (subst (AcceptsState k) (none_behind s t e) q))

pub ends_then : (k : RegexState) → ends k ≡ true → AcceptsState k []
ends_then [] e = nothing_left
ends_then (r ∷ k) e = let h = and_parts _ _ e in next_is (nullable_then r h.0) (ends_then k h.1) refl

pub empty_accepted : (k : RegexState) → AcceptsState k [] ↔ (ends k ≡ true)
empty_accepted k = (ends_if k, ends_then k)

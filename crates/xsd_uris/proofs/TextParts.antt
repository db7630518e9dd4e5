-- Parts of a text before and behind the first byte that passes a test.
use Rattle.std.proofs.Common.{◌≡◌, ℕ, ◌+◌, ◌≤◌, ◌<◌, List, [], ◌∷◌, Bool, true, false, not, take, drop, length, refl, ap, sym, ◌∙◌, rules, arith, one-add}
use Rattle.std.specs.List.{prefix_len, slice_split}
use Rattle.xsd_uris.specs.plain.UriShapes.{before, from, is_digit}

module _ (p : ℕ → Bool) where
  take_step : (c : ℕ) (s : List ℕ) (b : Bool) → p c ≡ b → take (prefix_len (λ d. not (p d)) s) s ≡ before p s
      → take (prefix_len (λ d. not (p d)) (c ∷ s)) (c ∷ s) ≡ before p (c ∷ s)
  take_step c s true e ih = rw e refl
  take_step c s false e ih = rw (e, one-add (prefix_len (λ d. not (p d)) s)) (ap (λ t. c ∷ t) ih)

  pub take-before : (s : List ℕ) → take (prefix_len (λ d. not (p d)) s) s ≡ before p s
  take-before [] = refl
  take-before (c ∷ s) = take_step c s (p c) refl (take-before s)

  drop_step : (c : ℕ) (s : List ℕ) (b : Bool) → p c ≡ b → drop (prefix_len (λ d. not (p d)) s) s ≡ from p s
      → drop (prefix_len (λ d. not (p d)) (c ∷ s)) (c ∷ s) ≡ from p (c ∷ s)
  drop_step c s true e ih = rw e refl
  drop_step c s false e ih = rw (e, one-add (prefix_len (λ d. not (p d)) s)) ih

  pub drop-from : (s : List ℕ) → drop (prefix_len (λ d. not (p d)) s) s ≡ from p s
  drop-from [] = refl
  drop-from (c ∷ s) = drop_step c s (p c) refl (drop-from s)

  parts_step : (c d : ℕ) (s t : List ℕ) (b : Bool) → p c ≡ b → (from p s ≡ d ∷ t → slice_split p s ≡ before p s ∷ slice_split p t)
      → from p (c ∷ s) ≡ d ∷ t → slice_split p (c ∷ s) ≡ before p (c ∷ s) ∷ slice_split p t
  parts_step c d s t true e ih is = search rules
  parts_step c d s t false e ih is = search rules

  -- a text with a byte that passes is cut there
  pub split-parts : (d : ℕ) (s t : List ℕ) → from p s ≡ d ∷ t → slice_split p s ≡ before p s ∷ slice_split p t
  split-parts d [] t is = search rules
  split-parts d (c ∷ s) t is = parts_step c d s t (p c) refl (split-parts d s t) is

  one_step : (c : ℕ) (s : List ℕ) (b : Bool) → p c ≡ b → (from p s ≡ [] → slice_split p s ≡ s ∷ []) → from p (c ∷ s) ≡ []
      → slice_split p (c ∷ s) ≡ (c ∷ s) ∷ []
  one_step c s true e ih is = search rules
  one_step c s false e ih is = search rules

  -- a text without one is not cut
  pub split-one : (s : List ℕ) → from p s ≡ [] → slice_split p s ≡ s ∷ []
  split-one [] is = refl
  split-one (c ∷ s) is = one_step c s (p c) refl (split-one s) is

  length_step : (c : ℕ) (s : List ℕ) (b : Bool) → p c ≡ b → length (from p s) ≤ length s → length (from p (c ∷ s)) ≤ length (c ∷ s)
  length_step c s true e ih = rw e (omega arith)
  length_step c s false e ih = rw e (omega (arith, ih))

  pub length-from : (s : List ℕ) → length (from p s) ≤ length s
  length-from [] = omega arith
  length-from (c ∷ s) = length_step c s (p c) refl (length-from s)

empty : (xs : List ℕ) → length xs ≡ 0 → xs ≡ []
empty [] e = refl
empty (x ∷ xs) e = search rules

-- a text cut once, or not at all
pub once_none : (p : ℕ → Bool) (s rest : List ℕ) → rest ≡ from p s → length rest ≡ 0 → slice_split p s ≡ s ∷ []
once_none p s rest r e = split-one p s (sym r ∙ empty rest e)

pub once_some : (p : ℕ → Bool) (s front rest back : List ℕ) (x : ℕ) → front ≡ before p s → rest ≡ from p s
    → (rest ≡ x ∷ back) × (length back + 1 ≡ length rest) → (slice_split p s ≡ front ∷ slice_split p back) × (length back < length s)
once_some p s front rest back x f r e =
    (split-parts p x s back (sym r ∙ e.0) ∙ ap (λ y. y ∷ slice_split p back) (sym f), omega (arith, length-from p s, ap length r, e.1))

digits_step : (c : ℕ) (s : List ℕ) (b : Bool) → is_digit c ≡ b → drop (prefix_len is_digit s) s ≡ from (λ d. not (is_digit d)) s
    → drop (prefix_len is_digit (c ∷ s)) (c ∷ s) ≡ from (λ d. not (is_digit d)) (c ∷ s)
digits_step c s true e ih = rw (e, one-add (prefix_len is_digit s)) ih
digits_step c s false e ih = rw e refl

pub drop-digits : (s : List ℕ) → drop (prefix_len is_digit s) s ≡ from (λ d. not (is_digit d)) s
drop-digits [] = refl
drop-digits (c ∷ s) = digits_step c s (is_digit c) refl (drop-digits s)

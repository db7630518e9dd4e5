-- Which texts write a number: those that `parse` takes and that begin as a number does.
use Rattle.std.proofs.Common.{codes, ◌≡◌, ℕ, List, [], ◌∷◌, ◌++◌, Bool, true, false, ◌||◌, ◌==◌, cond, Option, Some, None, is_some, refl, sym, ap, ◌∙◌, arith}
use Rattle.std.proofs.Common.{true≢false}
use Rattle.std.specs.Char.{is_ascii_digit, to_ascii_lowercase}
use Rattle.std.specs.Str.{bytes_eq}
use Rattle.std.specs.Str.Parse.{without_leading_sign}
use Rattle.std.specs.Option.{option_map}
use Rattle.std.specs.Float.{Float, Format, binary64}
use lib.Ieee.{of_bits}
use Rattle.std.specs.Float.Parse.{float_scan_step, completes_number, is_float_text, is_infinity_text, is_nan_text, without_sign, parse_float}
use Rattle.std.proofs.lemmas.Slice.Eq.{bytes_eq-Decides}
use Rattle.std.proofs.lemmas.Bool.{false_from_ne_true}
use Rattle.std.proofs.lemmas.Bool.Decides.{nat_tests}
use Rattle.std.proofs.Math.Bool.{or-false}
use Rattle.rng_model.specs.plain.BlankRuns.{is_run_byte}
use Rattle.rng_types.proofs.OnePiece.{differs}
use Rattle.std.specs.List.{list_all}
use Rattle.rng_model.specs.xsd.primitives.Floats.{one_zero, float_of}
use Rattle.xsd_floats.specs.plain.Numerals.{begins_number}

-- ---- one sign, by the words of two files of the kit

signless : (s : List ℕ) → without_leading_sign s ≡ without_sign s
signless [] = refl
signless (c ∷ s) = by_tests (c == 45) (c == 43) refl refl
  where
    by_tests : (minus plus : Bool) → (c == 45) ≡ minus → (c == 43) ≡ plus → without_leading_sign (c ∷ s) ≡ without_sign (c ∷ s)
    by_tests true true m p = rw (m, p) refl
    by_tests true false m p = rw (m, p) refl
    by_tests false true m p = rw (m, p) refl
    by_tests false false m p = rw (m, p) refl

-- ---- no number behind a wrong character

stuck : (c : ℕ) → float_scan_step 7 c ≡ 7
stuck c = grind (arith, nat_tests)

never : (s : List ℕ) → completes_number 7 s ≡ false
never [] = refl
never (c ∷ s) = ap (λ n. completes_number n s) (stuck c) ∙ never s

space_step : (n : ℕ) → float_scan_step n 32 ≡ 7
space_step n = grind (arith, nat_tests)

pub no_space : (n : ℕ) (v w : List ℕ) → completes_number n (v ++ 32 ∷ w) ≡ false
no_space n [] w = ap (λ k. completes_number k w) (space_step n) ∙ never w
no_space n (c ∷ v) w = no_space (float_scan_step n c) v w

other_step : (c : ℕ) → (is_ascii_digit c || (c == 0x2E)) ≡ false → float_scan_step 0 c ≡ 7
other_step c e = grind (arith, nat_tests)

-- what does not begin as a number is none
not_begun : (s : List ℕ) → begins_number s ≡ false → completes_number 0 s ≡ false
not_begun [] e = refl
not_begun (c ∷ s) e = ap (λ n. completes_number n s) (other_step c e) ∙ never s

-- and what does is no word
no_letter : (c : ℕ) → (is_ascii_digit c || (c == 0x2E)) ≡ true → (to_ascii_lowercase c == 105) ≡ false
no_letter c e = grind (arith, nat_tests)

no_letter_n : (c : ℕ) → (is_ascii_digit c || (c == 0x2E)) ≡ true → (to_ascii_lowercase c == 110) ≡ false
no_letter_n c e = grind (arith, nat_tests)

number_only : (s : List ℕ) → begins_number s ≡ true → (completes_number 0 s || (is_infinity_text s || is_nan_text s)) ≡ completes_number 0 s
number_only [] e = absurd (true≢false (sym e))
number_only (c ∷ s) e = rw (no_letter c e, no_letter_n c e) (or-false (completes_number 0 (c ∷ s)))

-- a text whose rest behind a sign begins as a number is a float's text if it is a number
pub is_number : (s : List ℕ) → begins_number (without_leading_sign s) ≡ true → is_float_text s ≡ completes_number 0 (without_sign s)
is_number s e = number_only (without_sign s) (ap begins_number (sym (signless s)) ∙ e)

-- ---- the words

other_word : (s w : List ℕ) → begins_number (without_leading_sign s) ≡ true → begins_number (without_leading_sign w) ≡ false → bytes_eq s w ≡ false
other_word s w e f =
    false_from_ne_true (bytes_eq s w)
    (λ same. true≢false (sym e ∙ ap (λ t. begins_number (without_leading_sign t)) ((bytes_eq-Decides s w).0 same) ∙ f))

module _ (format : Format) (s : List ℕ) where
  number_if : (b : Bool) → bytes_eq s (codes "INF") ≡ false → bytes_eq s (codes "-INF") ≡ false → bytes_eq s (codes "NaN") ≡ false
      → completes_number 0 (without_sign s) ≡ b → float_of format s ≡ cond b (option_map one_zero (parse_float format s)) None
  unfolding float_of
  number_if b p q r e = rw (p, q, r, e) refl

  -- a number
  pub read_number : (n : Option Float) → begins_number (without_leading_sign s) ≡ true → n ≡ parse_float format s → is_some n ≡ is_float_text s
      → option_map one_zero n ≡ float_of format s
  read_number n begun value some = by_result n value some
    where
      judged : (b : Bool) → is_float_text s ≡ b → float_of format s ≡ cond b (option_map one_zero (parse_float format s)) None
      judged b e =
          number_if b (other_word s (codes "INF") begun refl) (other_word s (codes "-INF") begun refl) (other_word s (codes "NaN") begun refl)
          (sym (is_number s begun) ∙ e)

      by_result : (n : Option Float) → n ≡ parse_float format s → is_some n ≡ is_float_text s → option_map one_zero n ≡ float_of format s
      by_result None value some = sym (judged false (sym some))
      by_result (Some x) value some = ap (option_map one_zero) value ∙ sym (judged true (sym some))

  -- neither a word nor a number
  pub read_none : (s ≡ codes "INF" → ⊥) → (s ≡ codes "-INF" → ⊥) → (s ≡ codes "NaN" → ⊥) → begins_number (without_leading_sign s) ≡ false → None ≡ float_of format s
  read_none p q r e =
      sym (number_if false (differs_from (codes "INF") p) (differs_from (codes "-INF") q) (differs_from (codes "NaN") r)
      (not_begun (without_sign s) (ap begins_number (sym (signless s)) ∙ e)))
    where
      differs_from : (w : List ℕ) → (s ≡ w → ⊥) → bytes_eq s w ≡ false
      differs_from w other = false_from_ne_true (bytes_eq s w) (λ same. other ((bytes_eq-Decides s w).0 same))

-- the words, by the patterns of bits that the code has for them
pub read_infinity : (format : Format) (s : List ℕ) → s ≡ codes "INF" → Some (one_zero (of_bits binary64 0x7FF0_0000_0000_0000)) ≡ float_of format s
unfolding float_of of_bits
read_infinity format s e = rw e refl

pub read_minus_infinity : (format : Format) (s : List ℕ) → s ≡ codes "-INF" → Some (one_zero (of_bits binary64 0xFFF0_0000_0000_0000)) ≡ float_of format s
unfolding float_of of_bits
read_minus_infinity format s e = rw e refl

pub read_nan : (format : Format) (s : List ℕ) → s ≡ codes "NaN" → Some (one_zero (of_bits binary64 0x7FF8_0000_0000_0000)) ≡ float_of format s
unfolding float_of of_bits
read_nan format s e = rw e refl

-- ---- the pieces of a text

pub float-empty : (format : Format) → float_of format [] ≡ None
unfolding float_of
float-empty format = refl

spaced_signless : (v w : List ℕ) → completes_number 0 (without_sign (v ++ 32 ∷ w)) ≡ false
spaced_signless [] w = no_space 0 [] w
spaced_signless (c ∷ v) w = by_sign (c == 43 || c == 45) refl
  where
    by_sign : (b : Bool) → (c == 43 || c == 45) ≡ b → completes_number 0 (without_sign ((c ∷ v) ++ 32 ∷ w)) ≡ false
    by_sign true e = rw e (no_space 0 v w)
    by_sign false e = rw e (no_space 0 (c ∷ v) w)

no_word : (v w x : List ℕ) → list_all is_run_byte x ≡ true → bytes_eq (v ++ 32 ∷ w) x ≡ false
no_word v w x e = differs is_run_byte v w x refl e

-- a text with a space inside writes nothing
pub float-spaced : (format : Format) (v w : List ℕ) → float_of format (v ++ 32 ∷ w) ≡ None
float-spaced format v w =
    number_if format (v ++ 32 ∷ w) false (no_word v w (codes "INF") refl) (no_word v w (codes "-INF") refl) (no_word v w (codes "NaN") refl)
    (spaced_signless v w)

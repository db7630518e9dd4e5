-- The value of a text in decimal is canonical.
use Rattle.std.proofs.Common.{◌≡◌, ◌≢◌, ◌⊎◌, inl, inr, ◌<◌, ℕ, ◌+◌, ◌*◌, ◌%◌, Bool, true, false, refl, sym, ap, ◌∙◌, arith, rules}
use Rattle.std.proofs.Common.{pos, nat_abs, List, [], ◌∷◌, ◌++◌, length, Some, None, subst, cond, ◌&&◌, append_assoc}
use Rattle.std.proofs.lemmas.Bool.{and_parts}
use Rattle.std.proofs.lemmas.Bool.Decides.{nat_tests}
use Rattle.std.proofs.lemmas.Int.Digits.{digits_value_push}
use Rattle.std.specs.Char.{is_ascii_digit, digit_value}
use Rattle.std.specs.List.{list_all, slice_split}
use Rattle.std.specs.Str.Parse.{digits_value, starts_with_minus, without_leading_sign}
use Rattle.rng_model.specs.datatypes.Texts.{has_bytes}
use Rattle.rng_model.specs.xsd.Numbers.{are_digits}
use Rattle.rng_model.specs.xsd.primitives.Decimals.{Decimal, is_point, is_zero_digit, significant, signed}
use Rattle.rng_model.specs.plain.OneDecimal.{IsCanonical}
use Rattle.rng_model.specs.xsd.primitives.Decimals.{decimal_with, decimal_if, decimal_parts, decimal_of}
use Rattle.xsd_values.proofs.OneDecimal.{abs_negated}

-- the digits end in one that is not 0
record EndsIn (ds : List ℕ) : Type 0 where
  front : List ℕ
  last : ℕ
  is : ds ≡ front ++ last ∷ []
  digit : is_ascii_digit last ≡ true
  nonzero : is_zero_digit last ≡ false

all_zero : (b : Bool) (d : ℕ) (ds : List ℕ) → cond b [] (d ∷ ds) ≡ [] → b ≡ true
all_zero true d ds e = refl
all_zero false d ds e = search rules

none_significant : (ds : List ℕ) → significant ds ≡ [] → list_all is_zero_digit ds ≡ true
none_significant [] e = refl
none_significant (d ∷ ds) e = all_zero (list_all is_zero_digit (d ∷ ds)) d (significant ds) e

first_fails : (a b : Bool) → (a && b) ≡ false → b ≡ true → a ≡ false
first_fails true b e f = sym f ∙ e
first_fails false b e f = refl

ends_step : (d : ℕ) (ds : List ℕ) (b : Bool) → list_all is_zero_digit (d ∷ ds) ≡ b → is_ascii_digit d ≡ true
    → (significant ds ≡ []) ⊎ EndsIn (significant ds)
    → (cond b [] (d ∷ significant ds) ≡ []) ⊎ EndsIn (cond b [] (d ∷ significant ds))
ends_step d ds true e digit rest = inl refl
ends_step d ds false e digit (inl none) =
    inr (record {
      front = [];
      last = d;
      is = ap (λ x. d ∷ x) none;
      digit = digit;
      nonzero = first_fails (is_zero_digit d) (list_all is_zero_digit ds) e (none_significant ds none);
    })
ends_step d ds false e digit (inr w) =
    inr (record { front = d ∷ w.front; last = w.last; is = ap (λ x. d ∷ x) w.is; digit = w.digit; nonzero = w.nonzero })

ends_in : (ds : List ℕ) → list_all is_ascii_digit ds ≡ true → (significant ds ≡ []) ⊎ EndsIn (significant ds)
ends_in [] digits = inl refl
ends_in (d ∷ ds) digits =
    let both = and_parts (is_ascii_digit d) (list_all is_ascii_digit ds) digits in
    ends_step d ds (list_all is_zero_digit (d ∷ ds)) refl both.0 (ends_in ds both.1)

digit_between : (c : ℕ) → is_ascii_digit c ≡ true → is_zero_digit c ≡ false → (0 < digit_value c) × (digit_value c < 10)
digit_between c d z = (grind (arith, nat_tests), grind (arith, nat_tests))

last_digit : (v d n : ℕ) → n ≡ v * 10 + d → 0 < d → d < 10 → n % 10 ≢ 0
last_digit v d n e low high f = omega (arith, e, low, high, f)

abs_signed : (minus : Bool) (n : ℕ) → nat_abs (signed minus n) ≡ n
abs_signed true n = abs_negated (pos n)
abs_signed false n = refl

made_canonical : (minus : Bool) (whole fraction : List ℕ) → list_all is_ascii_digit fraction ≡ true → IsCanonical (decimal_with minus whole fraction)
made_canonical minus whole fraction digits h = elim (ends_in fraction digits) [ inl none ↦ absurd (empty none) | inr w ↦ ends w ]
  where
    empty : significant fraction ≡ [] → ⊥
    empty none = omega (arith, h, ap length none)

    ends : EndsIn (significant fraction) → nat_abs (signed minus (digits_value 10 (whole ++ significant fraction))) % 10 ≢ 0
    ends w =
        let parts : whole ++ significant fraction ≡ (whole ++ w.front) ++ w.last ∷ [] =
        ap (λ x. whole ++ x) w.is ∙ sym (append_assoc whole w.front (w.last ∷ [])) in
        let value = ap (digits_value 10) parts ∙ digits_value_push 10 (whole ++ w.front) w.last in
        let size = abs_signed minus (digits_value 10 (whole ++ significant fraction)) ∙ value in
        let bounds = digit_between w.last w.digit w.nonzero in
        last_digit (digits_value 10 (whole ++ w.front)) (digit_value w.last) _ size bounds.0 bounds.1

all_behind : (xs ys : List ℕ) → list_all is_ascii_digit (xs ++ ys) ≡ true → list_all is_ascii_digit ys ≡ true
all_behind [] ys e = e
all_behind (x ∷ xs) ys e = all_behind xs ys (and_parts (is_ascii_digit x) (list_all is_ascii_digit (xs ++ ys)) e).1

chosen : (b : Bool) (d e : Decimal) → cond b (Some d) None ≡ Some e → (b ≡ true) × (d ≡ e)
chosen true d e f = (refl, cc)
chosen false d e f = search rules

if_canonical : (minus : Bool) (whole fraction : List ℕ) (d : Decimal) → decimal_if minus whole fraction ≡ Some d → IsCanonical d
if_canonical minus whole fraction d e =
    let found = chosen (are_digits (whole ++ fraction)) (decimal_with minus whole fraction) d e in
    let digits = and_parts (has_bytes (whole ++ fraction)) (list_all is_ascii_digit (whole ++ fraction)) found.0 in
    subst IsCanonical found.1 (made_canonical minus whole fraction (all_behind whole fraction digits.1))

parts_canonical : (minus : Bool) (parts : List (List ℕ)) (d : Decimal) → decimal_parts minus parts ≡ Some d → IsCanonical d
parts_canonical minus [] d e = search rules
parts_canonical minus (whole ∷ []) d e = if_canonical minus whole [] d e
parts_canonical minus (whole ∷ fraction ∷ []) d e = if_canonical minus whole fraction d e
parts_canonical minus (whole ∷ fraction ∷ more ∷ rest) d e = search rules

pub value_canonical : (s : List ℕ) (d : Decimal) → decimal_of s ≡ Some d → IsCanonical d
unfolding decimal_of
value_canonical s d e = parts_canonical (starts_with_minus s) (slice_split is_point (without_leading_sign s)) d e

-- Numerals: what `parse` returns if they are short enough.
use Rattle.std.proofs.Common.{◌^◌, codes, nat_le, ◌==◌, ◌≡◌, ℕ, zero, suc, ◌<◌, ◌≤◌, List, [], ◌∷◌, ◌++◌, length, Bool, true, false, ◌&&◌, Some, None, Result}
use Rattle.std.proofs.Common.{Ok, Err, ℤ, pos, neg_ℤ, cond, refl, ap, ◌∙◌, rules, arith}
use Rattle.std.specs.Char.{is_ascii_digit}
use Rattle.std.specs.List.{list_all}
use Rattle.std.specs.Result.{result_ok}
use Rattle.std.specs.Int.{w128}
use Rattle.std.specs.Prelude.{FitsSigned}
use lib.Signed.{mag}
use Rattle.std.specs.Str.Parse.{IsNumeral, ParsesSigned, ParsesUnsigned, without_leading_sign, starts_with_minus, signed_digits_value, digits_value}
use Rattle.std.proofs.lemmas.Str.Parse.{parse_gives}
use Rattle.std.proofs.lemmas.Str.Parse.{IsNumeralModel, IsDigitsTest, numerals_by_value, digits_value_short}
use Rattle.std.proofs.lemmas.Bool.{and_parts, leb-true, and_left, and_right}
use Rattle.rng_model.specs.datatypes.Texts.{has_bytes}
use Rattle.rng_model.specs.plain.BlankRuns.{is_run_byte}
use Rattle.rng_model.specs.datatypes.Facets.{is_decimal, most_digits, most_length_digits, short_integer_of, length_of, truth_of}
use Rattle.rng_types.proofs.OnePiece.{all_fails, differs}

digits_test : IsDigitsTest (λ ds. list_all is_ascii_digit ds ≡ true)
digits_test = search rules

-- the digits of the kit, as they are tested here
pub own : IsNumeralModel (λ ds. list_all is_ascii_digit ds ≡ true) (digits_value 10)
own = numerals_by_value _ digits_test

pub some_digits : (ds : List ℕ) → has_bytes ds ≡ true → 0 < length ds
some_digits [] e = search rules
some_digits (d ∷ ds) e = omega arith

-- a numeral of `most` digits or fewer
pub record IsShort (most : ℕ) (ds : List ℕ) : Type 0 where
  pub some : 0 < length ds
  pub digits : list_all is_ascii_digit ds ≡ true
  pub short : length ds ≤ most

pub IsShort-from : (most : ℕ) (ds : List ℕ) → is_decimal most ds ≡ true → IsShort most ds
IsShort-from most ds e =
    let parts = and_parts (has_bytes ds) (list_all is_ascii_digit ds && nat_le (length ds) most) e in
    let more = and_parts (list_all is_ascii_digit ds) (nat_le (length ds) most) parts.1 in
    record { some = some_digits ds parts.0; digits = more.0; short = leb-true (length ds) most more.1 }

-- what `parse` returns for a length
pub length-parsed : {E : Type 0} (bs : List ℕ) (r : Result ℕ E) → ParsesUnsigned 64 10 bs r → is_decimal most_length_digits bs ≡ true
    → result_ok r ≡ length_of bs
unfolding length_of
length-parsed bs r h e =
    let is = IsShort-from most_length_digits bs e in
    let small : digits_value 10 bs < 10 ^ most_length_digits = digits_value_short own bs most_length_digits is.digits is.short in
    let answer = parse_gives own 64 bs r h is.digits is.some (omega (arith, small)) in
    rw (answer, e) refl

-- a bound on the bits of a negative number
mag_neg : (n : ℕ) → mag (neg_ℤ (pos n)) ≤ n
mag_neg zero = omega arith
mag_neg (suc n) = omega arith

mag_signed : (minus : Bool) (n : ℕ) → mag (cond minus (neg_ℤ (pos n)) (pos n)) ≤ n
mag_signed true n = mag_neg n
mag_signed false n = omega arith

signed_fits : (bs : List ℕ) → digits_value 10 (without_leading_sign bs) < 10 ^ most_digits → FitsSigned w128 (signed_digits_value 10 bs)
signed_fits bs small = record { sfits = omega (arith, small, mag_signed (starts_with_minus bs) (digits_value 10 (without_leading_sign bs))) }

parsed_by : {E : Type 0} (bs : List ℕ) (r : Result ℤ E) → ParsesSigned w128 10 bs r
    → IsNumeral 10 (without_leading_sign bs) × FitsSigned w128 (signed_digits_value 10 bs) → result_ok r ≡ Some (signed_digits_value 10 bs)
parsed_by bs (Ok x) h is = ap Some h.1
parsed_by bs (Err e) h is = absurd (h is)

-- what `parse` returns for an integer
pub integer-parsed : {E : Type 0} (bs : List ℕ) (r : Result ℤ E) → ParsesSigned w128 10 bs r → is_decimal most_digits (without_leading_sign bs) ≡ true
    → result_ok r ≡ short_integer_of bs
unfolding short_integer_of
integer-parsed bs r h e =
    let is = IsShort-from most_digits (without_leading_sign bs) e in
    let small : digits_value 10 (without_leading_sign bs) < 10 ^ most_digits =
    digits_value_short own (without_leading_sign bs) most_digits is.digits is.short in
    parsed_by bs r h ((is.some, own.to (without_leading_sign bs) is.digits), signed_fits bs small) ∙ rw e refl

-- an empty text, or one with a space inside, is not a truth value
pub truth-spaced : (v w : List ℕ) → truth_of (v ++ 32 ∷ w) ≡ None
unfolding truth_of
truth-spaced v w =
    rw (
      differs is_run_byte v w (codes "true") refl refl,
      differs is_run_byte v w (codes "1") refl refl,
      differs is_run_byte v w (codes "false") refl refl,
      differs is_run_byte v w (codes "0") refl refl,
    ) refl

pub truth-empty : truth_of [] ≡ None
unfolding truth_of
truth-empty = refl

-- and not a number
pub sign_spaced : (v w : List ℕ) → list_all is_ascii_digit (without_leading_sign (v ++ 32 ∷ w)) ≡ false
sign_spaced [] w = refl
sign_spaced (c ∷ v) w = by_sign (c == 45) (c == 43) refl refl
  where
    by_sign : (minus plus : Bool) → (c == 45) ≡ minus → (c == 43) ≡ plus → list_all is_ascii_digit (without_leading_sign ((c ∷ v) ++ 32 ∷ w)) ≡ false
    by_sign true plus e f = rw e (all_fails is_ascii_digit v w refl)
    by_sign false true e f = rw (e, f) (all_fails is_ascii_digit v w refl)
    by_sign false false e f = rw (e, f) (all_fails is_ascii_digit (c ∷ v) w refl)

pub none_if : {A : Type 0} (b : Bool) (x : A) → b ≡ false → cond b (Some x) None ≡ None
none_if b x e = rw e refl

pub integer-spaced : (v w : List ℕ) → short_integer_of (v ++ 32 ∷ w) ≡ None
unfolding short_integer_of
integer-spaced v w =
    let ds = without_leading_sign (v ++ 32 ∷ w) in
    none_if (is_decimal most_digits ds) (signed_digits_value 10 (v ++ 32 ∷ w))
    (and_right (has_bytes ds) (list_all is_ascii_digit ds && nat_le (length ds) most_digits)
    (and_left (list_all is_ascii_digit ds) (nat_le (length ds) most_digits) (sign_spaced v w)))

pub integer-empty : short_integer_of [] ≡ None
unfolding short_integer_of
integer-empty = refl

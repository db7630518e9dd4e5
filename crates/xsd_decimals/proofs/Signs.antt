-- Signs of numbers, and the order and the digits of numbers with signs.
use Rattle.std.proofs.Common.{◌≡◌, ℕ, zero, suc, ◌+◌, ◌*◌, ◌^◌, ◌%◌, ◌<◌, ◌≤◌, List, [], ◌∷◌, ◌++◌, length, Bool, true, false, not, cond, ◌==◌, ◌&&◌, nat_le, nat_lt}
use Rattle.std.proofs.Common.{ℤ, pos, negsuc, neg_ℤ, nat_abs, ◌*ℤ◌, int_le, int_lt, Less, Equal, Greater}
use Rattle.std.proofs.Common.{refl, sym, ap, ap₂, ◌∙◌, rules, arith, tests, true≢false, subst, length-append}
use Rattle.std.specs.Char.{is_ascii_digit, digit_value}
use Rattle.std.specs.List.{list_all}
use Rattle.std.specs.Cmp.{nat_cmp_is}
use Rattle.std.specs.Ordering.{int_cmp, nat_cmp, is_lt, int_eq}
use Rattle.std.specs.Str.Parse.{digits_value}
use Rattle.std.proofs.Math.Nat.{one-le-pow}
use Rattle.std.proofs.lemmas.Bool.{and_parts, and_from, and_left, and_right}
use Rattle.std.proofs.lemmas.Bool.Decides.{Decides-int_eq}
use Rattle.std.proofs.lemmas.List.Folds.{list_all-append}
use Rattle.std.proofs.lemmas.Str.Parse.{digits_value_short}
use Rattle.rng_model.specs.datatypes.Texts.{has_bytes}
use Rattle.rng_model.specs.xsd.Numbers.{are_digits}
use Rattle.rng_types.proofs.Decimals.{own}
use Rattle.rng_model.specs.xsd.primitives.Decimals.{Decimal, significant, signed, scaled}
use Rattle.rng_model.specs.plain.OneDecimal.{IsCanonical, same_decimal}
use Rattle.rng_model.specs.xsd.primitives.Decimals.{decimal_with, has_total_digits}
use Rattle.xsd_values.proofs.OneDecimal.{abs_negated, one_decimal}
use Rattle.xsd_values.proofs.SameValues.{decimal_is, decimal_self}
use Rattle.xsd_decimals.specs.declared.number.Number.{Number}
use Rattle.xsd_decimals.specs.plain.Numbers.{past_zeros, AreWhole, AreFraction, IsWritten, number_of, value_of, size_of}
use Rattle.xsd_decimals.proofs.ComparedDigits.{AreDigits, first_digit, above_zero, few_digits}
use Rattle.xsd_decimals.proofs.Magnitudes.{value-append}
use Rattle.xsd_decimals.proofs.Zeros.{value-past_zeros, whole-past_zeros, fraction-significant, not_zeros, ends_above_zero, stays_above, is_above}

-- ---- the number that parts write

-- zero has no sign
zero_sign : (minus : Bool) (ds : List ℕ) → signed (minus && not (length ds == 0)) (digits_value 10 ds) ≡ signed minus (digits_value 10 ds)
zero_sign false ds = refl
zero_sign true [] = refl
zero_sign true (d ∷ ds) = search rules

-- the number without zeros at its ends, as the definition has it
pub number_is : (minus : Bool) (whole fraction : List ℕ)
    → number_of (minus && not (length (past_zeros whole ++ significant fraction) == 0)) (past_zeros whole) (significant fraction)
    ≡ decimal_with minus whole fraction
number_is minus whole fraction =
    ap (λ u. record { units = u; places = length (significant fraction) })
    (zero_sign minus (past_zeros whole ++ significant fraction) ∙ ap (signed minus) (value-past_zeros whole (significant fraction)))

signed_only : (minus : Bool) (ds : List ℕ) → (minus && not (length ds == 0)) ≡ true → (length ds == 0) ≡ false
signed_only minus [] e = let both = and_parts minus false e in absurd (true≢false (sym both.1))
signed_only minus (d ∷ ds) e = search rules

in_front : (xs ys : List ℕ) → AreDigits (xs ++ ys) → AreDigits xs × AreDigits ys
in_front xs ys e = and_parts (list_all is_ascii_digit xs) (list_all is_ascii_digit ys) (sym (list_all-append is_ascii_digit xs ys) ∙ e)

pub is_written : (minus : Bool) (whole fraction : List ℕ) → are_digits (whole ++ fraction) ≡ true
    → IsWritten (minus && not (length (past_zeros whole ++ significant fraction) == 0)) (past_zeros whole) (significant fraction)
is_written minus whole fraction e =
    let digits = in_front whole fraction (and_parts (has_bytes (whole ++ fraction)) _ e).1 in
    record {
      whole_digits = whole-past_zeros whole digits.0;
      fraction_digits = fraction-significant fraction digits.1;
      sign = signed_only minus (past_zeros whole ++ significant fraction);
    }

-- ---- a number with a minus is below zero

some_value : (whole fraction : List ℕ) → AreWhole whole → AreFraction fraction → (length (whole ++ fraction) == 0) ≡ false
    → 0 < digits_value 10 (whole ++ fraction)
some_value [] [] w f some = absurd (true≢false some)
some_value [] (d ∷ fraction) w f some = is_above 0 (d ∷ fraction) f.digits (not_zeros d fraction f.last)
some_value (d ∷ whole) fraction w f some =
    stays_above (0 * 10 + digit_value d) (whole ++ fraction) (omega (arith, above_zero d (first_digit d whole w.digits) w.first))

pub positive : (minus : Bool) (whole fraction : List ℕ) (n : ℕ) → IsWritten minus whole fraction → minus ≡ true
    → 0 < digits_value 10 (whole ++ fraction) * 10 ^ n
positive minus whole fraction n is e =
    times (digits_value 10 (whole ++ fraction)) (10 ^ n) (some_value whole fraction is.whole_digits is.fraction_digits (is.sign e)) (one-le-pow n 10 (omega arith))
  where
    times : (a b : ℕ) → 0 < a → 0 < b → 0 < a * b
    times zero b some more = absurd (omega (arith, some))
    times (suc a) zero some more = absurd (omega (arith, more))
    times (suc a) (suc b) some more = omega arith

-- ---- multiplied by a power of 10

pub scaled_is : (minus : Bool) (n k : ℕ) → signed minus n *ℤ pos k ≡ signed minus (n * k)
scaled_is false n k = refl
scaled_is true zero k = let e : 0 * k ≡ 0 = omega arith in rw e refl
scaled_is true (suc n) k = refl

-- ---- the order of integers

pub not_negative : (m n : ℕ) → nat_cmp m n ≡ int_cmp (pos m) (pos n)
not_negative m n = search (rules, tests, arith)

pub both_negative : (m n : ℕ) → nat_cmp n m ≡ int_cmp (neg_ℤ (pos m)) (neg_ℤ (pos n))
both_negative zero zero = sym (nat_cmp_is 0 0 Equal refl)
both_negative zero (suc n) = sym (nat_cmp_is (suc n) 0 Greater (omega arith))
both_negative (suc m) zero = sym (nat_cmp_is 0 (suc m) Less (omega arith))
both_negative (suc m) (suc n) = search (rules, tests, arith)

pub below_zero : (n m : ℕ) → 0 < n → Less ≡ int_cmp (neg_ℤ (pos n)) (pos m)
below_zero zero m some = absurd (omega (arith, some))
below_zero (suc n) m some = refl

pub above : (n m : ℕ) → 0 < n → Greater ≡ int_cmp (pos m) (neg_ℤ (pos n))
above zero m some = absurd (omega (arith, some))
above (suc n) m some = refl

by_tests : (a b : Bool) → is_lt (cond a Less (cond b Greater Equal)) ≡ a
by_tests true b = refl
by_tests false true = refl
by_tests false false = refl

pub less_is : (m n : ℤ) → is_lt (int_cmp m n) ≡ int_lt m n
less_is m n = by_tests (int_lt m n) (int_lt n m)

not_less : (m n : ℤ) → not (int_lt n m) ≡ int_le m n
not_less (pos m) (pos n) = search (rules, tests, arith)
not_less (pos m) (negsuc n) = refl
not_less (negsuc m) (pos n) = refl
not_less (negsuc m) (negsuc n) = search (rules, tests, arith)

pub at_most_is : (m n : ℤ) → not (is_lt (int_cmp n m)) ≡ int_le m n
at_most_is m n = ap not (less_is n m) ∙ not_less m n

-- ---- a number is written in one way

abs_signed : (minus : Bool) (n : ℕ) → nat_abs (signed minus n) ≡ n
abs_signed true n = abs_negated (pos n)
abs_signed false n = refl

pub canonical : (minus : Bool) (whole fraction : List ℕ) → AreFraction fraction → IsCanonical (number_of minus whole fraction)
canonical minus whole [] is some zero_end = omega (arith, some)
canonical minus whole (d ∷ fraction) is some zero_end =
    ends_above_zero (digits_value 10 whole) d fraction is.digits is.last
    (
    sym (ap (λ n. n % 10) (value-append 0 whole (d ∷ fraction))) ∙
    (sym (ap (λ n. n % 10) (abs_signed minus (digits_value 10 (whole ++ d ∷ fraction)))) ∙ zero_end)
    )

pub same_is : (a b : Decimal) → IsCanonical a → IsCanonical b → int_eq (scaled a b) (scaled b a) ≡ same_decimal a b
same_is a b a_is b_is = by_test (int_eq (scaled a b) (scaled b a)) (same_decimal a b) refl refl
  where
    by_test : (x y : Bool) → int_eq (scaled a b) (scaled b a) ≡ x → same_decimal a b ≡ y → int_eq (scaled a b) (scaled b a) ≡ same_decimal a b
    by_test true y e f =
        let one = one_decimal a b a_is b_is ((Decides-int_eq (scaled a b) (scaled b a)).0 e) in
        e ∙ sym (subst (λ x. same_decimal a x ≡ true) one (decimal_self a))
    by_test false true e f =
        let one = decimal_is a b f in
        absurd (true≢false (sym ((Decides-int_eq (scaled a b) (scaled b a)).1 (subst (λ x. scaled a x ≡ scaled x a) one refl)) ∙ e))
    by_test false false e f = e ∙ sym f

-- ---- how many digits

abbrev has_total : ℕ → ℕ → ℕ → Bool
has_total total n places = nat_lt n (10 ^ total) && nat_le places total

-- if there are none before the point, those behind it count, with their zeros in front
behind_only : (ds : List ℕ) (total : ℕ) → AreDigits ds → nat_le (0 + length ds) total ≡ has_total total (digits_value 10 ds) (length ds)
behind_only ds total is = by_length (nat_le (length ds) total) refl
  where
    zero_more : nat_le (0 + length ds) total ≡ nat_le (length ds) total
    zero_more = ap (λ n. nat_le n total) (same (length ds))
      where
        same : (n : ℕ) → 0 + n ≡ n
        same n = omega arith

    by_length : (b : Bool) → nat_le (length ds) total ≡ b → nat_le (0 + length ds) total ≡ has_total total (digits_value 10 ds) (length ds)
    by_length true e =
        let le : length ds ≤ total = search (rules, tests, arith) in
        let small : digits_value 10 ds < 10 ^ total = digits_value_short own ds total is le in
        let test : nat_lt (digits_value 10 ds) (10 ^ total) ≡ true = search (rules, tests, arith) in
        zero_more ∙ e ∙ sym (and_from (nat_lt (digits_value 10 ds) (10 ^ total)) (nat_le (length ds) total) test e)
    by_length false e = zero_more ∙ e ∙ sym (and_right (nat_lt (digits_value 10 ds) (10 ^ total)) (nat_le (length ds) total) e)

with_whole : (d : ℕ) (ds fraction : List ℕ) (total : ℕ) → AreDigits ((d ∷ ds) ++ fraction) → 0 < digit_value d
    → nat_le (length (d ∷ ds) + length fraction) total ≡ has_total total (digits_value 10 ((d ∷ ds) ++ fraction)) (length fraction)
with_whole d ds fraction total is some =
    let all : length (d ∷ (ds ++ fraction)) ≡ length (d ∷ ds) + length fraction = omega (arith, length-append ds fraction) in
    by_length (nat_le (length (d ∷ ds) + length fraction) total) refl
    (ap (λ n. nat_le n total) (sym all) ∙ few_digits d (ds ++ fraction) total is some)
  where
    by_length : (b : Bool) → nat_le (length (d ∷ ds) + length fraction) total ≡ b
        → nat_le (length (d ∷ ds) + length fraction) total ≡ nat_lt (digits_value 10 (d ∷ (ds ++ fraction))) (10 ^ total)
        → nat_le (length (d ∷ ds) + length fraction) total ≡ has_total total (digits_value 10 ((d ∷ ds) ++ fraction)) (length fraction)
    by_length true e test =
        let le : length (d ∷ ds) + length fraction ≤ total = search (rules, tests, arith) in
        let few : length fraction ≤ total = omega (arith, le) in
        let behind : nat_le (length fraction) total ≡ true = search (rules, tests, arith) in
        e ∙ sym (and_from _ (nat_le (length fraction) total) (sym test ∙ e) behind)
    by_length false e test = e ∙ sym (and_left _ (nat_le (length fraction) total) (sym test ∙ e))

pub total_is : (minus : Bool) (whole fraction : List ℕ) (total : ℕ) → IsWritten minus whole fraction
    → nat_le (length whole + length fraction) total ≡ has_total_digits total (number_of minus whole fraction)
total_is minus whole fraction total is =
    by_whole whole is.whole_digits is.fraction_digits
    ∙ ap (λ n. has_total total n (length fraction)) (sym (abs_signed minus (digits_value 10 (whole ++ fraction))))
  where
    by_whole : (whole : List ℕ) → AreWhole whole → AreFraction fraction
        → nat_le (length whole + length fraction) total ≡ has_total total (digits_value 10 (whole ++ fraction)) (length fraction)
    by_whole [] w f = behind_only fraction total f.digits
    by_whole (d ∷ ds) w f =
        with_whole d ds fraction total (list_all-append is_ascii_digit (d ∷ ds) fraction ∙ and_from _ _ w.digits f.digits)
        (above_zero d (first_digit d ds w.digits) w.first)

-- ---- the numbers, with their signs

pub signs_as : (a b : Number) (left right : Bool) → left ≡ a.negative → right ≡ b.negative
    → int_cmp (signed left (size_of a * 10 ^ length b.fraction.now)) (signed right (size_of b * 10 ^ length a.fraction.now))
    ≡ int_cmp (scaled (value_of a) (value_of b)) (scaled (value_of b) (value_of a))
signs_as a b left right e f =
    ap₂ (λ m n. int_cmp (signed m (size_of a * 10 ^ length b.fraction.now)) (signed n (size_of b * 10 ^ length a.fraction.now))) e f
    ∙ ap₂ int_cmp (sym (scaled_is a.negative (size_of a) (10 ^ length b.fraction.now))) (sym (scaled_is b.negative (size_of b) (10 ^ length a.fraction.now)))

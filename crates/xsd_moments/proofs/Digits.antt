-- The numbers that digits write.
use Rattle.std.proofs.Common.{◌≡◌, ◌≤◌, ◌<◌, ℕ, zero, suc, ◌+◌, ◌-◌, ◌*◌, ◌^◌, List, [], ◌∷◌, ◌++◌, length, get_or, true, replicate, refl, sym, ap, ◌∙◌, subst, arith, rules, tests}
use Rattle.std.proofs.Math.Nat.{le-mul_of_pos_right, pow-succ', mul-lt-mul_of_pos_right}
use Rattle.std.proofs.lemmas.Nat.{pow-add}
use Rattle.std.specs.Char.{is_ascii_digit, digit_value}
use Rattle.std.specs.List.{list_all}
use Rattle.std.specs.Str.Parse.{digits_value, digits_value_after}
use Rattle.std.proofs.lemmas.Str.Parse.{digits_value_short}
use Rattle.std.proofs.lemmas.Bool.{and_parts}
use Rattle.rng_types.proofs.Decimals.{own}
use Rattle.xsd_values.proofs.OneDecimal.{ten_pow}
use Rattle.rng_model.specs.xsd.primitives.Fronts.{fraction_value}

pub digit_is : (b : ℕ) → is_ascii_digit b ≡ true → (48 ≤ b) × (b ≤ 57) × (digit_value b ≡ b - 48)
digit_is b e = (search (rules, tests, arith), search (rules, tests, arith), search (rules, tests, arith))

pub first_digit : (b : ℕ) (s : List ℕ) → list_all is_ascii_digit (b ∷ s) ≡ true → (is_ascii_digit b ≡ true) × (list_all is_ascii_digit s ≡ true)
first_digit b s e = and_parts (is_ascii_digit b) (list_all is_ascii_digit s) e

-- more digits write no less
pub grows : (radix n : ℕ) (s : List ℕ) → 0 < radix → n ≤ digits_value_after radix n s
grows radix n [] some = omega arith
grows radix n (c ∷ s) some = omega (arith, le-mul_of_pos_right n some, grows radix (n * radix + digit_value c) s some)

-- the number so far, where these digits are still to come
pub so_far : (n b : ℕ) (s digits : List ℕ) → digits_value_after 10 n (b ∷ s) ≡ digits_value 10 digits → list_all is_ascii_digit (b ∷ s) ≡ true
    → list_all is_ascii_digit digits ≡ true → length digits ≤ 18 → (48 ≤ b) × (n * 10 + (b - 48) < 10 ^ 18) × (digits_value_after 10 (n * 10 + (b - 48)) s ≡ digits_value 10 digits)
so_far n b s digits e next all few =
    let is = digit_is b (first_digit b s next).0 in
    let same : digits_value_after 10 (n * 10 + (b - 48)) s ≡ digits_value 10 digits = ap (λ d. digits_value_after 10 (n * 10 + d) s) (sym is.2) ∙ e in
    (is.0, omega (arith, grows 10 (n * 10 + (b - 48)) s (omega arith), same, digits_value_short own digits 18 all few), same)

pub fits_so_far : (n : ℕ) (s digits : List ℕ) → 1 ≤ length s → digits_value_after 10 n s ≡ digits_value 10 digits → list_all is_ascii_digit s ≡ true
    → list_all is_ascii_digit digits ≡ true → length digits ≤ 18 → n * 10 + (get_or s 0 0 - 48) < 10 ^ 18
fits_so_far n [] digits some e next all few = absurd (omega (arith, some))
fits_so_far n (b ∷ s) digits some e next all few = (so_far n b s digits e next all few).1

-- the number, where no digit is still to come
pub whole : (n : ℕ) (s digits : List ℕ) → length s < 1 → digits_value_after 10 n s ≡ digits_value 10 digits → list_all is_ascii_digit digits ≡ true
    → n < 10 ^ length digits
whole n [] digits none e all = omega (arith, e, digits_value_short own digits (length digits) all (omega arith))
whole n (b ∷ s) digits none e all = absurd (omega (arith, none))

-- ---- fractions

after-append : (radix n : ℕ) (s t : List ℕ) → digits_value_after radix n (s ++ t) ≡ digits_value_after radix (digits_value_after radix n s) t
after-append radix n [] t = refl
after-append radix n (c ∷ s) t = after-append radix (n * radix + digit_value c) s t

one_zero : (n p : ℕ) → (n * 10 + 0) * p ≡ n * (10 * p)
one_zero n p = omega arith

zeros : (n k : ℕ) → digits_value_after 10 n (replicate k 0x30) ≡ n * 10 ^ k
zeros n zero = omega arith
zeros n (suc k) = zeros (n * 10 + 0) k ∙ (one_zero n (10 ^ k) ∙ ap (λ p. n * p) (sym (pow-succ' 10 k)))

pub fraction-value : (digits : List ℕ) → fraction_value digits ≡ digits_value 10 digits * 10 ^ (18 - length digits)
fraction-value digits =
    after-append 10 0 digits (replicate (18 - length digits) 0x30) ∙ zeros (digits_value 10 digits) (18 - length digits)

scaled : (n k m : ℕ) → n < 10 ^ k → n * 10 ^ m < 10 ^ (k + m)
scaled n k m h = subst (λ p. n * 10 ^ m < p) (sym (pow-add 10 k m)) (mul-lt-mul_of_pos_right {k = 10 ^ m} h (ten_pow m))

pub fraction_below : (n : ℕ) (digits : List ℕ) → n < 10 ^ length digits → length digits ≤ 18 → n * 10 ^ (18 - length digits) < 10 ^ 18
fraction_below n digits h few =
    let all : length digits + (18 - length digits) ≡ 18 = omega arith in
    subst (λ k. n * 10 ^ (18 - length digits) < 10 ^ k) all (scaled n (length digits) (18 - length digits) h)

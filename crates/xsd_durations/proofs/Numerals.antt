-- Digits read one by one.
use Rattle.std.proofs.Common.{◌≡◌, ◌<◌, ◌≤◌, ℕ, ◌+◌, ◌-◌, ◌*◌, ◌^◌, List, length, get_or, take, Bool, true, false, nat_lt, ◌∙◌, sym, refl, rules, tests, arith, true≢false}
use Rattle.std.specs.Char.{is_ascii_digit, digit_value}
use Rattle.std.specs.Int.{IsInRange}
use Rattle.std.specs.List.{list_all}
use Rattle.std.specs.Str.Parse.{digits_value}
use Rattle.std.proofs.lemmas.Int.Digits.{digits_value_more}
use Rattle.std.proofs.lemmas.List.Folds.{list_all_at}
use Rattle.std.proofs.lemmas.Str.{digit_value_digit}
use Rattle.std.proofs.lemmas.Str.Parse.{digits_value_short, digits_value-take-le}
use Rattle.std.proofs.lemmas.Bool.{and_right, le-ltb}
use Rattle.rng_types.proofs.Decimals.{own}
use Rattle.rng_model.specs.datatypes.Texts.{has_bytes}
use Rattle.rng_model.specs.xsd.primitives.Durations.{number_limit, is_number}

-- each of the digits is one
pub is_digit : (ds : List ℕ) (i : ℕ) → list_all is_ascii_digit ds ≡ true → i < length ds → IsInRange 48 57 (get_or ds i 0)
is_digit ds i all inside = by_digit (is_ascii_digit (get_or ds i 0)) refl
  where
    by_digit : (b : Bool) → is_ascii_digit (get_or ds i 0) ≡ b → IsInRange 48 57 (get_or ds i 0)
    by_digit true e = search (rules, tests, arith)
    by_digit false e = absurd (true≢false (sym all ∙ list_all_at is_ascii_digit ds i 0 inside e))

-- one more digit
pub one_more : (ds : List ℕ) (i number : ℕ) → list_all is_ascii_digit ds ≡ true → i < length ds → number ≡ digits_value 10 (take i ds)
    → number * 10 + (get_or ds i 0 - 48) ≡ digits_value 10 (take (i + 1) ds)
one_more ds i number all inside e =
    let worth : digit_value (get_or ds i 0) + 48 ≡ get_or ds i 0 = digit_value_digit (get_or ds i 0) (is_digit ds i all inside) in
    omega (arith, e, worth, digits_value_more 10 ds i inside)

-- digits whose front is past the limit are
pub past_limit : (ds : List ℕ) (i number : ℕ) → i < length ds → number ≡ digits_value 10 (take (i + 1) ds) → 10 ^ 18 ≤ number → is_number ds ≡ false
past_limit ds i number inside e past =
    and_right (has_bytes ds) (nat_lt (digits_value 10 ds) number_limit)
    (le-ltb _ _ (omega (arith, e, past, digits_value-take-le 10 ds (i + 1) (omega arith))))

pub record IsNext (ds : List ℕ) (i number : ℕ) : Type 0 where
  pub digit : IsInRange 48 57 (get_or ds i 0)
  pub value : number * 10 + (get_or ds i 0 - 48) ≡ digits_value 10 (take (i + 1) ds)
  pub small : number * 10 + (get_or ds i 0 - 48) < 10 ^ 18

pub next_is : (ds : List ℕ) (i number : ℕ) → list_all is_ascii_digit ds ≡ true → length ds ≤ 18 → i < length ds → number ≡ digits_value 10 (take i ds)
    → IsNext ds i number
next_is ds i number all few inside e =
    let value = one_more ds i number all inside e in
    let whole : digits_value 10 ds < 10 ^ 18 = digits_value_short own ds 18 all few in
    record {
      digit = is_digit ds i all inside;
      value = value;
      small = omega (arith, value, whole, digits_value-take-le 10 ds (i + 1) (omega arith));
    }

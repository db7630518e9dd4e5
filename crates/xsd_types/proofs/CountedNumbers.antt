-- The numbers of facets, as `parse` reads them.
use Rattle.std.proofs.Common.{◌≡◌, ◌<◌, ◌^◌, ℕ, List, [], ◌∷◌, length, Bool, true, false, cond, ◌&&◌, nat_le, Some, None, ℤ, pos, negsuc, nat_abs, int_le}
use Rattle.std.proofs.Common.{refl, sym, ap, ◌∙◌, subst, rules, tests, arith, true≢false}
use Rattle.std.specs.Prelude.{FitsSigned}
use Rattle.std.specs.Int.{w64}
use Rattle.std.specs.Option.{option_and_then}
use Rattle.std.specs.Str.Parse.{IsNumeral, without_leading_sign, signed_digits_value}
use Rattle.std.proofs.lemmas.Bool.{and_parts, and_from}
use Rattle.rng_model.specs.datatypes.Texts.{has_bytes}
use Rattle.rng_types.proofs.Decimals.{own, some_digits}
use Rattle.rng_model.specs.xsd.Numbers.{are_digits, integer_of, counted_from, most_counted}
use Rattle.xsd_types.proofs.Signs.{no_integer, an_integer}

abbrev IsRead : List ℕ → ℤ → Type 0
IsRead bs n = (IsNumeral 10 (without_leading_sign bs) × FitsSigned w64 (signed_digits_value 10 bs)) × (n ≡ signed_digits_value 10 bs)

-- digits of the kit are digits here
digits_from : (ds : List ℕ) → IsNumeral 10 ds → are_digits ds ≡ true
digits_from ds is = and_from (has_bytes ds) _ (some ds is.0) (own.from ds is.1)
  where
    some : (ds : List ℕ) → 0 < length ds → has_bytes ds ≡ true
    some [] l = absurd (omega (arith, l))
    some (d ∷ ds) l = refl

read_is : (bs : List ℕ) (n : ℤ) → IsRead bs n → integer_of bs ≡ Some n
read_is bs n read = an_integer bs (digits_from (without_leading_sign bs) read.0.0) ∙ ap Some (sym read.1)

enough_counted : (least : ℕ) (n : ℤ) → FitsSigned w64 n → int_le (pos least) n ≡ true → Some (nat_abs n) ≡ counted_from least n
enough_counted least (pos n) fits e =
    let low : nat_le least n ≡ true = search (rules, tests, arith) in
    let high : nat_le n most_counted ≡ true = high_is n fits.sfits in rw (low, high) refl
  where
    high_is : (n : ℕ) → n < 2 ^ 63 → nat_le n most_counted ≡ true
    high_is n l = search (rules, tests, arith)
enough_counted least (negsuc n) fits e = absurd (true≢false (sym e))

few_counted : (least : ℕ) (n : ℤ) → int_le (pos least) n ≡ false → None ≡ counted_from least n
few_counted least (pos n) e = let low : nat_le least n ≡ false = search (rules, tests, arith) in rw low refl
few_counted least (negsuc n) e = refl

pub counted : (bs : List ℕ) (least : ℕ) (n : ℤ) → IsRead bs n → int_le (pos least) n ≡ true
    → Some (nat_abs n) ≡ option_and_then (counted_from least) (integer_of bs)
counted bs least n read e =
    enough_counted least n (subst (FitsSigned w64) (sym read.1) read.0.1) e ∙ ap (option_and_then (counted_from least)) (sym (read_is bs n read))

pub low : (bs : List ℕ) (least : ℕ) (n : ℤ) → IsRead bs n → int_le (pos least) n ≡ false → None ≡ option_and_then (counted_from least) (integer_of bs)
low bs least n read e = few_counted least n e ∙ ap (option_and_then (counted_from least)) (sym (read_is bs n read))

-- a number that does not fit is too great to count
too_great : (least : ℕ) (n : ℤ) → (FitsSigned w64 n → ⊥) → None ≡ counted_from least n
too_great least (negsuc n) no_fit = refl
too_great least (pos n) no_fit = by_size (nat_le n most_counted) refl
  where
    by_size : (b : Bool) → nat_le n most_counted ≡ b → None ≡ counted_from least (pos n)
    by_size true e = let small : n < 2 ^ 63 = search (rules, tests, arith) in absurd (no_fit (record { sfits = small }))
    by_size false e = rw e (by_least (nat_le least n))
      where
        by_least : (b : Bool) → None ≡ cond (b && false) (Some n) None
        by_least true = refl
        by_least false = refl

pub unread : (bs : List ℕ) (least : ℕ) → (IsNumeral 10 (without_leading_sign bs) × FitsSigned w64 (signed_digits_value 10 bs) → ⊥)
    → None ≡ option_and_then (counted_from least) (integer_of bs)
unread bs least not_read = by_digits (are_digits (without_leading_sign bs)) refl
  where
    by_digits : (b : Bool) → are_digits (without_leading_sign bs) ≡ b → None ≡ option_and_then (counted_from least) (integer_of bs)
    by_digits false e = ap (option_and_then (counted_from least)) (sym (no_integer bs e))
    by_digits true e =
        let parts = and_parts (has_bytes (without_leading_sign bs)) _ e in
        let numeral : IsNumeral 10 (without_leading_sign bs) = (some_digits (without_leading_sign bs) parts.0, own.to (without_leading_sign bs) parts.1) in
        too_great least (signed_digits_value 10 bs) (λ fits. not_read (numeral, fits)) ∙ ap (option_and_then (counted_from least)) (sym (an_integer bs e))

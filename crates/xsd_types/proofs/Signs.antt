-- Signs and zeros of numerals.
use Rattle.std.proofs.Common.{◌≡◌, ℕ, zero, suc, ◌<◌, List, [], ◌∷◌, ◌++◌, length, Bool, true, false, not, cond, ◌==◌, ◌&&◌, Some, None, pos, neg_ℤ, nat_abs}
use Rattle.std.proofs.Common.{Less, Greater, refl, sym, ap, ◌∙◌, rules, arith, tests, true≢false, subst}
use Rattle.std.specs.Char.{is_ascii_digit}
use Rattle.std.specs.List.{list_all}
use Rattle.std.specs.Ordering.{int_cmp}
use Rattle.std.specs.Str.Parse.{digits_value, without_leading_sign, signed_digits_value, starts_with_minus}
use Rattle.std.proofs.lemmas.Bool.{and_parts, and_right}
use Rattle.rng_model.specs.datatypes.Texts.{has_bytes}
use Rattle.rng_types.proofs.Decimals.{sign_spaced, none_if}
use Rattle.rng_model.specs.xsd.Numbers.{are_digits, integer_of}
use Rattle.xsd_types.specs.plain.Digits.{past_zeros, AreSignificant, IsSigned, signed_value}

-- ---- whether a text writes an integer

pub no_integer : (s : List ℕ) → are_digits (without_leading_sign s) ≡ false → integer_of s ≡ None
unfolding integer_of
no_integer s e = none_if (are_digits (without_leading_sign s)) (signed_digits_value 10 s) e

pub an_integer : (s : List ℕ) → are_digits (without_leading_sign s) ≡ true → integer_of s ≡ Some (signed_digits_value 10 s)
unfolding integer_of
an_integer s e = rw e refl

-- zeros in front change nothing
pub value-past_zeros : (ds : List ℕ) → digits_value 10 (past_zeros ds) ≡ digits_value 10 ds
value-past_zeros [] = refl
value-past_zeros (d ∷ ds) = by_zero (d == 48) refl (value-past_zeros ds)
  where
    by_zero : (b : Bool) → (d == 48) ≡ b → digits_value 10 (past_zeros ds) ≡ digits_value 10 ds
        → digits_value 10 (past_zeros (d ∷ ds)) ≡ digits_value 10 (d ∷ ds)
    by_zero true e more = let is : d ≡ 48 = search (rules, tests, arith) in rw e (more ∙ sym (ap (λ x. digits_value 10 (x ∷ ds)) is))
    by_zero false e more = rw e refl

pub significant-past_zeros : (ds : List ℕ) → list_all is_ascii_digit ds ≡ true → AreSignificant (past_zeros ds)
significant-past_zeros [] is = record { digits = refl; first = refl }
significant-past_zeros (d ∷ ds) is =
    by_zero (d == 48) refl (significant-past_zeros ds (and_parts (is_ascii_digit d) (list_all is_ascii_digit ds) is).1)
  where
    by_zero : (b : Bool) → (d == 48) ≡ b → AreSignificant (past_zeros ds) → AreSignificant (past_zeros (d ∷ ds))
    by_zero true e more = rw e more
    by_zero false e more = rw e (record { digits = is; first = e })

-- zero has no sign
zero_sign : (minus : Bool) (ds : List ℕ) → signed_value (minus && not (length ds == 0)) ds ≡ signed_value minus ds
zero_sign false ds = refl
zero_sign true [] = refl
zero_sign true (d ∷ ds) = search rules

pub signed-past_zeros : (minus : Bool) (ds : List ℕ) → signed_value (minus && not (length (past_zeros ds) == 0)) (past_zeros ds) ≡ signed_value minus ds
signed-past_zeros minus ds = zero_sign minus (past_zeros ds) ∙ ap (λ n. cond minus (neg_ℤ (pos n)) (pos n)) (value-past_zeros ds)

pub numeral_value : (bytes ds pz : List ℕ) (minus neg : Bool) → ds ≡ without_leading_sign bytes → pz ≡ past_zeros ds → minus ≡ starts_with_minus bytes
    → neg ≡ (minus && not (length pz == 0)) → are_digits ds ≡ true → Some (signed_value neg pz) ≡ integer_of bytes
numeral_value bytes ds pz minus neg ds_is pz_is minus_is neg_is digits =
    ap (λ n. Some (signed_value n pz)) (neg_is ∙ ap (λ m. m && not (length pz == 0)) minus_is)
    ∙ ap (λ z. Some (signed_value (starts_with_minus bytes && not (length z == 0)) z)) (pz_is ∙ ap past_zeros ds_is)
    ∙ ap Some (signed-past_zeros (starts_with_minus bytes) (without_leading_sign bytes))
    ∙ sym (an_integer bytes (ap are_digits (sym ds_is) ∙ digits))

signed_only : (minus : Bool) (ds : List ℕ) → (minus && not (length ds == 0)) ≡ true → (length ds == 0) ≡ false
signed_only minus [] e = let both = and_parts minus false e in absurd (true≢false (sym both.1))
signed_only minus (d ∷ ds) e = search rules

pub all_digits : (ds pz : List ℕ) (minus neg : Bool) → pz ≡ past_zeros ds → neg ≡ (minus && not (length pz == 0)) → are_digits ds ≡ true
    → IsSigned neg pz
all_digits ds pz minus neg pz_is neg_is digits = record {
  digits = subst AreSignificant (sym pz_is) (significant-past_zeros ds (and_parts (has_bytes ds) (list_all is_ascii_digit ds) digits).1);
  sign = λ e. signed_only minus pz (sym neg_is ∙ e);
}

-- a number below zero is less than one that is not
pub below_zero : (n m : ℕ) → 0 < n → Less ≡ int_cmp (neg_ℤ (pos n)) (pos m)
below_zero zero m some = absurd (omega (arith, some))
below_zero (suc n) m some = refl

pub above_zero : (n m : ℕ) → 0 < n → Greater ≡ int_cmp (pos m) (neg_ℤ (pos n))
above_zero zero m some = absurd (omega (arith, some))
above_zero (suc n) m some = refl

pub size-signed : (minus : Bool) (ds : List ℕ) → nat_abs (signed_value minus ds) ≡ digits_value 10 ds
size-signed false ds = refl
size-signed true ds = by_size (digits_value 10 ds)
  where
    by_size : (n : ℕ) → nat_abs (neg_ℤ (pos n)) ≡ n
    by_size zero = refl
    by_size (suc n) = refl

-- ---- no integer is empty or has a space inside

pub integer-spaced : (v w : List ℕ) → integer_of (v ++ 32 ∷ w) ≡ None
unfolding integer_of
integer-spaced v w =
    let ds = without_leading_sign (v ++ 32 ∷ w) in
    none_if (are_digits ds) (signed_digits_value 10 (v ++ 32 ∷ w)) (and_right (has_bytes ds) (list_all is_ascii_digit ds) (sign_spaced v w))

pub integer-empty : integer_of [] ≡ None
unfolding integer_of
integer-empty = refl

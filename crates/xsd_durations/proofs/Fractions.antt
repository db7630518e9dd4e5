-- Fractions of a second.
use Rattle.std.proofs.Common.{◌≡◌, ◌<◌, ◌≤◌, ℕ, zero, suc, ◌+◌, ◌-◌, ◌*◌, ◌^◌, List, [], ◌∷◌, ◌++◌, length, replicate, true, ◌∙◌, sym, refl, arith, length-append, ap, mul_assoc}
use Rattle.std.proofs.lemmas.List.{length-replicate}
use Rattle.std.specs.Char.{is_ascii_digit, digit_value}
use Rattle.std.specs.List.{list_all}
use Rattle.std.specs.Str.Parse.{digits_value, digits_value_after}
use Rattle.std.proofs.Math.Nat.{pow-succ'}
use Rattle.std.proofs.lemmas.Bool.{and_from}
use Rattle.std.proofs.lemmas.List.Folds.{list_all-append}
use Rattle.std.proofs.lemmas.Str.Parse.{digits_value_short}
use Rattle.rng_types.proofs.Decimals.{own}
use Rattle.rng_model.specs.xsd.primitives.Fronts.{fraction_value}

-- ---- the value of digits before zeros

value-append : (n : ℕ) (ds es : List ℕ) → digits_value_after 10 n (ds ++ es) ≡ digits_value_after 10 (digits_value_after 10 n ds) es
value-append n [] es = refl
value-append n (d ∷ ds) es = value-append (n * 10 + digit_value d) ds es

shifted : (n t : ℕ) → (n * 10 + 0) * t ≡ n * (10 * t)
shifted n t = let same : n * 10 + 0 ≡ n * 10 = omega arith in ap (λ m. m * t) same ∙ mul_assoc n 10 t

value-zeros : (n k : ℕ) → digits_value_after 10 n (replicate k 48) ≡ n * 10 ^ k
value-zeros n zero = omega arith
value-zeros n (suc k) = value-zeros (n * 10 + 0) k ∙ (shifted n (10 ^ k) ∙ ap (λ t. n * t) (sym (pow-succ' 10 k)))

pub fraction_is : (ds : List ℕ) → digits_value 10 ds * 10 ^ (18 - length ds) ≡ fraction_value ds
fraction_is ds = sym (value-append 0 ds (replicate (18 - length ds) 48) ∙ value-zeros (digits_value 10 ds) (18 - length ds))

-- ---- and it is less than a second

zeros_are_digits : (k : ℕ) → list_all is_ascii_digit (replicate k 48) ≡ true
zeros_are_digits zero = refl
zeros_are_digits (suc k) = zeros_are_digits k

pub fraction_small : (ds : List ℕ) → list_all is_ascii_digit ds ≡ true → length ds ≤ 18 → fraction_value ds < 10 ^ 18
fraction_small ds all few =
    let zeros = replicate (18 - length ds) 48 in
    digits_value_short own (ds ++ zeros) 18
    (list_all-append is_ascii_digit ds zeros ∙ and_from (list_all is_ascii_digit ds) (list_all is_ascii_digit zeros) all (zeros_are_digits (18 - length ds)))
    (omega (arith, few, length-append ds zeros, length-replicate {A = ℕ} (18 - length ds) 48))

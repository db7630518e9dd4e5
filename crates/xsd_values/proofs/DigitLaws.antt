-- The facets on digits say what the standard says: that a number is an integer divided by a power of 10, within limits.
use Rattle.std.proofs.Common.{◌≡◌, ◌≤◌, ◌<◌, ℕ, ◌*◌, ◌^◌, true, refl, sym, ap, ◌∙◌, arith}
use Rattle.std.proofs.Common.{ℤ, pos, ◌*ℤ◌, nat_abs, nat_le, nat_lt, mul-le-mul_left, le_of_mul-le-mul_right}
use Rattle.std.proofs.Math.Nat.{pow-le-pow_right}
use Rattle.std.proofs.lemmas.Bool.{and_parts, and_from, leb-true, le-leb, ltb-true, lt-ltb}
use Rattle.rng_model.specs.xsd.primitives.Decimals.{Decimal, has_total_digits, has_fraction_digits}
use Rattle.rng_model.specs.plain.OneDecimal.{IsCanonical}
use Rattle.xsd_values.proofs.OneDecimal.{abs_times, ten_pow, no_more_places}

-- the number is i / 10 ^ n
abbrev pub IsQuotient : Decimal → ℤ → ℕ → Type 0
IsQuotient d i n = i *ℤ pos (10 ^ d.places) ≡ d.units *ℤ pos (10 ^ n)

-- ---- the least n is the number of places, and then i is the least too

sizes : (d : Decimal) (i : ℤ) (n : ℕ) → IsQuotient d i n → nat_abs i * 10 ^ d.places ≡ nat_abs d.units * 10 ^ n
sizes d i n e = sym (abs_times i (10 ^ d.places)) ∙ (ap nat_abs e ∙ abs_times d.units (10 ^ n))

least_places : (d : Decimal) (i : ℤ) (n : ℕ) → IsCanonical d → IsQuotient d i n → d.places ≤ n
least_places d i n canonical e = no_more_places (nat_abs i) (nat_abs d.units) n d.places (sizes d i n e) canonical

smaller : (m n s t : ℕ) → 0 < s → s ≤ t → m * s ≡ n * t → n ≤ m
smaller m n s t h l e = le_of_mul-le-mul_right {m = n} {n = m} {k = s} (omega (arith, mul-le-mul_left n l, e)) h

least_units : (d : Decimal) (i : ℤ) (n : ℕ) → IsCanonical d → IsQuotient d i n → nat_abs d.units ≤ nat_abs i
least_units d i n canonical e =
    smaller (nat_abs i) (nat_abs d.units) (10 ^ d.places) (10 ^ n) (ten_pow d.places)
    (pow-le-pow_right {n = 10} (omega arith) {i = d.places} {j = n} (least_places d i n canonical e)) (sizes d i n e)

-- ---- totalDigits (section 4.3.11)

pub record HasTotal (total : ℕ) (d : Decimal) : Type 0 where
  i : ℤ
  n : ℕ
  below : nat_abs i < 10 ^ total
  places : n ≤ total
  is : IsQuotient d i n

pub total_is : (total : ℕ) (d : Decimal) → has_total_digits total d ≡ true → HasTotal total d
total_is total d e =
    let both = and_parts (nat_lt (nat_abs d.units) (10 ^ total)) (nat_le d.places total) e in
    record { i = d.units; n = d.places; below = ltb-true _ _ both.0; places = leb-true _ _ both.1; is = refl }

pub is_total : (total : ℕ) (d : Decimal) → IsCanonical d → HasTotal total d → has_total_digits total d ≡ true
is_total total d canonical h =
    let least = least_units d h.i h.n canonical h.is in
    let places = least_places d h.i h.n canonical h.is in
    and_from (nat_lt (nat_abs d.units) (10 ^ total)) (nat_le d.places total)
    (lt-ltb _ _ (omega (arith, least, h.below))) (le-leb _ _ (omega (arith, places, h.places)))

-- ---- fractionDigits (section 4.3.12)

pub record HasFraction (fraction : ℕ) (d : Decimal) : Type 0 where
  i : ℤ
  n : ℕ
  places : n ≤ fraction
  is : IsQuotient d i n

pub fraction_is : (fraction : ℕ) (d : Decimal) → has_fraction_digits fraction d ≡ true → HasFraction fraction d
fraction_is fraction d e = record { i = d.units; n = d.places; places = leb-true _ _ e; is = refl }

pub is_fraction : (fraction : ℕ) (d : Decimal) → IsCanonical d → HasFraction fraction d → has_fraction_digits fraction d ≡ true
is_fraction fraction d canonical h =
    let places = least_places d h.i h.n canonical h.is in
    le-leb _ _ (omega (arith, places, h.places))

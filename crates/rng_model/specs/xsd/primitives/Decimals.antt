-- decimal: which number a text writes, and the facets on its digits (XML Schema Part 2, Second Edition, sections 3.2.3, 4.3.11
-- and 4.3.12). A number has as many digits as are written: the standard asks for 18 at least.
use Rattle.std.specs.Prelude.{codes, ℕ, ◌^◌, List, [], ◌∷◌, ◌++◌, length, Bool, true, not, ◌&&◌, ◌==◌, nat_le, nat_lt, cond, if◌then◌else◌}
use Rattle.std.specs.Prelude.{Option, Some, None, ℤ, pos, neg_ℤ, ◌*ℤ◌, nat_abs, int_le, int_lt}
use Rattle.std.specs.List.{list_all, slice_split}
use Rattle.std.specs.Option.{option_and_then}
use Rattle.std.specs.Str.Parse.{without_leading_sign, starts_with_minus, digits_value}
use Rattle.rng_model.specs.datatypes.Texts.{collapse}
use Rattle.rng_model.specs.datatypes.Facets.{passes, Parameter}
use Rattle.rng_model.specs.xsd.Numbers.{are_digits, count_of, digit_count_of}
use Rattle.rng_model.specs.xsd.Facets.{Facets, written, is_read, clash}
use Rattle.rng_model.specs.xsd.Limits.{Ordered, Limits, is_within_limits, written_limits}

-- A decimal number: an integer, divided by 10 to the number of places behind the point.
pub record Decimal : Type 0 where
  pub units : ℤ
  pub places : ℕ

-- ---- which number a text writes

abbrev pub is_point : ℕ → Bool
is_point c = c == 0x2E

abbrev pub is_zero_digit : ℕ → Bool
is_zero_digit c = c == 0x30

-- digits behind the point without the zeros at their end
abbrev pub significant : List ℕ → List ℕ
significant [] = []
significant (d ∷ ds) = if list_all is_zero_digit (d ∷ ds) then [] else d ∷ significant ds

abbrev pub signed : Bool → ℕ → ℤ
signed minus n = cond minus (neg_ℤ (pos n)) (pos n)

abbrev pub decimal_with : Bool → List ℕ → List ℕ → Decimal
decimal_with minus whole fraction = record {
  units = signed minus (digits_value 10 (whole ++ significant fraction));
  places = length (significant fraction);
}

-- digits before the point and behind it, of which there is one at least
abbrev pub decimal_if : Bool → List ℕ → List ℕ → Option Decimal
decimal_if minus whole fraction = if are_digits (whole ++ fraction) then Some (decimal_with minus whole fraction) else None

-- the parts of a text between its points: one, or two
abbrev pub decimal_parts : Bool → List (List ℕ) → Option Decimal
decimal_parts minus [] = None
decimal_parts minus (whole ∷ []) = decimal_if minus whole []
decimal_parts minus (whole ∷ fraction ∷ []) = decimal_if minus whole fraction
decimal_parts minus (whole ∷ fraction ∷ more ∷ rest) = None

-- an optional sign, and digits that a point may separate (section 3.2.3.1)
unfoldable pub decimal_of : List ℕ → Option Decimal
decimal_of s = decimal_parts (starts_with_minus s) (slice_split is_point (without_leading_sign s))

-- ---- order: by the integers, once both are divided by the same power of 10

abbrev pub scaled : Decimal → Decimal → ℤ
scaled a b = a.units *ℤ pos (10 ^ b.places)

abbrev pub decimals : Ordered Decimal
decimals = record {
  value_of = λ s. decimal_of (collapse s);
  has = λ d. true;
  is_at_most = λ a b. int_le (scaled a b) (scaled b a);
  is_less = λ a b. int_lt (scaled a b) (scaled b a);
}

-- ---- digits

-- the greatest number of digits, and the greatest number of those behind the point
pub record Digits : Type 0 where
  pub total : Option ℕ
  pub fraction : Option ℕ

-- The number is i / 10 ^ n for an i below 10 ^ total and an n that is at most total (section 4.3.11). The least such n is
-- the number of places.
abbrev pub has_total_digits : ℕ → Decimal → Bool
has_total_digits total d = nat_lt (nat_abs d.units) (10 ^ total) && nat_le d.places total

-- The number is i / 10 ^ n for an n that is at most fraction (section 4.3.12).
abbrev pub has_fraction_digits : ℕ → Decimal → Bool
has_fraction_digits fraction d = nat_le d.places fraction

abbrev pub is_within_digits : Digits → Decimal → Bool
is_within_digits f d = passes (λ total. has_total_digits total d) f.total && passes (λ fraction. has_fraction_digits fraction d) f.fraction

-- a positiveInteger and a nonNegativeInteger (sections 4.3.11 and 4.3.12)
abbrev pub decimal_facets : Facets
decimal_facets = (codes "totalDigits", is_read digit_count_of) ∷ (codes "fractionDigits", is_read count_of) ∷ []

abbrev pub digits_of : List Parameter → Digits
digits_of ps = record { total = written digit_count_of (codes "totalDigits") ps; fraction = written count_of (codes "fractionDigits") ps }

-- there are not more digits behind the point than there are digits (section 4.3.12.4)
abbrev pub are_digits_in_order : Digits → Bool
are_digits_in_order f = not (clash nat_le f.fraction f.total)

-- ---- the facets of decimal

pub record DecimalFacets : Type 0 where
  pub limits : Limits Decimal
  pub digits : Digits

abbrev pub is_within_decimal_facets : DecimalFacets → Decimal → Bool
is_within_decimal_facets f d = is_within_limits decimals f.limits d && is_within_digits f.digits d

abbrev pub with_digits : Digits → Limits Decimal → Option DecimalFacets
with_digits f l = if are_digits_in_order f then Some (record { limits = l; digits = f }) else None

-- these are the facets that the parameters write, if decimal takes them
abbrev pub written_decimal_facets : List Parameter → Option DecimalFacets
written_decimal_facets ps = option_and_then (with_digits (digits_of ps)) (written_limits decimals decimal_facets ps)

-- The integers as an ordered type, and the facets that their types take (XML Schema Part 2, Second Edition, sections 3.3.13
-- to 3.3.25).
use Rattle.std.specs.Prelude.{codes, ℕ, ◌^◌, List, [], ◌∷◌, Bool, false, ◌==◌, ◌&&◌, Option, Some, None, ℤ, nat_abs, nat_lt, int_le, int_lt}
use Rattle.std.specs.Option.{option_map}
use Rattle.rng_model.specs.datatypes.Facets.{Bounds, is_inside, passes, Parameter}
use Rattle.rng_model.specs.xsd.Numbers.{written_integer, count_of, digit_count_of}
use Rattle.rng_model.specs.xsd.Facets.{Facets, written, is_read}
use Rattle.rng_model.specs.xsd.Limits.{Ordered, Limits, is_within_limits, written_limits}

-- an integer type, from the least of its values to the greatest
abbrev pub integers : Bounds → Ordered ℤ
integers b = record { value_of = written_integer; has = is_inside b; is_at_most = int_le; is_less = int_lt }

-- ---- digits

-- the integer has at most so many digits (section 4.3.11)
abbrev pub has_digits : ℤ → ℕ → Bool
has_digits n total = nat_lt (nat_abs n) (10 ^ total)

-- An integer type has fixed `fractionDigits` to 0, so that no other number may be written (sections 3.3.13 and 4.3.12.4).
abbrev pub is_zero_count : Option ℕ → Bool
is_zero_count None = false
is_zero_count (Some n) = n == 0

abbrev pub digit_facets : Facets
digit_facets = (codes "totalDigits", is_read digit_count_of) ∷ (codes "fractionDigits", λ s. is_zero_count (count_of s)) ∷ []

-- ---- the facets of an integer type

pub record IntegerFacets : Type 0 where
  pub limits : Limits ℤ
  pub total_digits : Option ℕ

-- the integer is one of the type, and within the facets
abbrev pub is_within_facets : Bounds → IntegerFacets → ℤ → Bool
is_within_facets b f n = is_inside b n && (is_within_limits (integers b) f.limits n && passes (has_digits n) f.total_digits)

abbrev pub with_total : Option ℕ → Limits ℤ → IntegerFacets
with_total total l = record { limits = l; total_digits = total }

-- these are the facets that the parameters write, if a type with these bounds takes them
abbrev pub written_facets : Bounds → List Parameter → Option IntegerFacets
written_facets b ps = option_map (with_total (written digit_count_of (codes "totalDigits") ps)) (written_limits (integers b) digit_facets ps)

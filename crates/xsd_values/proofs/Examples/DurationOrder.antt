-- Worked cases of durations that are equal, and of the order of durations, which the checker computes.
use Rattle.std.proofs.Common.{codes, ◌≡◌, ℕ, List, [], ◌∷◌, refl, true, false, Bool, Option, Some, None, is_some}
use Rattle.rng_model.specs.datatypes.Texts.{collapse, pieces}
use Rattle.rng_model.specs.xsd.Limits.{written_limits}
use Rattle.rng_model.specs.xsd.primitives.Durations.{Duration, duration_of, is_less, durations}
use Rattle.rng_model.specs.regexes.Patterns.{patterns_of}
use Rattle.xsd_values.proofs.Examples.Tables.{allows, equates}

-- ---- equality: each of the six numbers, and no sign at zero

other_numbers : equates (codes "duration") (codes "P1Y") (codes "P12M") ≡ false
unfolding duration_of collapse pieces written_limits patterns_of
other_numbers = refl

left_out : equates (codes "duration") (codes "P1Y") (codes "P1Y0M") ≡ true
unfolding duration_of collapse pieces written_limits patterns_of
left_out = refl

minutes_or_seconds : equates (codes "duration") (codes "PT60S") (codes "PT1M") ≡ false
unfolding duration_of collapse pieces written_limits patterns_of
minutes_or_seconds = refl

zero_fraction : equates (codes "duration") (codes "PT60S") (codes "PT60.0S") ≡ true
unfolding duration_of collapse pieces written_limits patterns_of
zero_fraction = refl

zeros_in_front : equates (codes "duration") (codes "P0000000001Y") (codes "P1Y") ≡ true
unfolding duration_of collapse pieces written_limits patterns_of
zeros_in_front = refl

zeros : equates (codes "duration") (codes "-P0D") (codes "P0D") ≡ true
unfolding duration_of collapse pieces written_limits patterns_of
zeros = refl

-- ---- order: the table of section 3.2.6.2

-- whether the first is less, and whether it is greater
abbrev compared : Option Duration → Option Duration → Option (Bool × Bool)
compared None b = None
compared (Some a) None = None
compared (Some a) (Some b) = Some (is_less a b, is_less b a)

abbrev against : List ℕ → List ℕ → Option (Bool × Bool)
against s t = compared (duration_of s) (duration_of t)

year_364_days : against (codes "P1Y") (codes "P364D") ≡ Some (false, true)
unfolding duration_of
year_364_days = refl

year_365_days : against (codes "P1Y") (codes "P365D") ≡ Some (false, false)
unfolding duration_of
year_365_days = refl

year_366_days : against (codes "P1Y") (codes "P366D") ≡ Some (false, false)
unfolding duration_of
year_366_days = refl

year_367_days : against (codes "P1Y") (codes "P367D") ≡ Some (true, false)
unfolding duration_of
year_367_days = refl

month_27_days : against (codes "P1M") (codes "P27D") ≡ Some (false, true)
unfolding duration_of
month_27_days = refl

month_28_days : against (codes "P1M") (codes "P28D") ≡ Some (false, false)
unfolding duration_of
month_28_days = refl

month_31_days : against (codes "P1M") (codes "P31D") ≡ Some (false, false)
unfolding duration_of
month_31_days = refl

month_32_days : against (codes "P1M") (codes "P32D") ≡ Some (true, false)
unfolding duration_of
month_32_days = refl

five_months_149_days : against (codes "P5M") (codes "P149D") ≡ Some (false, true)
unfolding duration_of
five_months_149_days = refl

five_months_150_days : against (codes "P5M") (codes "P150D") ≡ Some (false, false)
unfolding duration_of
five_months_150_days = refl

five_months_153_days : against (codes "P5M") (codes "P153D") ≡ Some (false, false)
unfolding duration_of
five_months_153_days = refl

five_months_154_days : against (codes "P5M") (codes "P154D") ≡ Some (true, false)
unfolding duration_of
five_months_154_days = refl

-- a duration with a minus is before all others
below_zero : against (codes "-P1D") (codes "PT0S") ≡ Some (true, false)
unfolding duration_of
below_zero = refl

-- years are twelve months each, however many there are
many_years : against (codes "P999999999999999999Y") (codes "P999999999999999999Y1M") ≡ Some (true, false)
unfolding duration_of
many_years = refl

many_years_before : against (codes "-P999999999999999999Y999999999999999999M") (codes "-P999999999999999999Y999999999999999998M") ≡ Some (true, false)
unfolding duration_of
many_years_before = refl

-- ---- bounds: one that is neither less nor greater does not allow the value

undecided : allows (codes "duration") ((codes "minInclusive", codes "P30D") ∷ []) (codes "P1M") ≡ false
unfolding duration_of collapse pieces written_limits patterns_of
undecided = refl

at_bound : allows (codes "duration") ((codes "minInclusive", codes "P30D") ∷ []) (codes "P30D") ≡ true
unfolding duration_of collapse pieces written_limits patterns_of
at_bound = refl

-- as many months and as many seconds, in other numbers
sixty_minutes : allows (codes "duration") ((codes "maxInclusive", codes "PT1H") ∷ []) (codes "PT60M") ≡ true
unfolding duration_of collapse pieces written_limits patterns_of
sixty_minutes = refl

twelve_months : allows (codes "duration") ((codes "minInclusive", codes "P12M") ∷ []) (codes "P1Y") ≡ true
unfolding duration_of collapse pieces written_limits patterns_of
twelve_months = refl

one_year_only : is_some (written_limits durations [] ((codes "minInclusive", codes "P12M") ∷ (codes "maxInclusive", codes "P1Y") ∷ [])) ≡ true
unfolding duration_of collapse pieces written_limits
one_year_only = refl

not_below_itself : allows (codes "duration") ((codes "maxExclusive", codes "PT1H") ∷ []) (codes "PT60M") ≡ false
unfolding duration_of collapse pieces written_limits patterns_of
not_below_itself = refl

not_without_sign : allows (codes "duration") ((codes "maxInclusive", codes "-PT1H") ∷ []) (codes "PT60M") ≡ false
unfolding duration_of collapse pieces written_limits patterns_of
not_without_sign = refl

above : allows (codes "duration") ((codes "minInclusive", codes "P30D") ∷ []) (codes "P2M") ≡ true
unfolding duration_of collapse pieces written_limits patterns_of
above = refl

below : allows (codes "duration") ((codes "maxExclusive", codes "P32D") ∷ []) (codes "P1M") ≡ true
unfolding duration_of collapse pieces written_limits patterns_of
below = refl

-- two bounds that cannot be compared do not stand together, and neither do two at one end
no_order : written_limits durations [] ((codes "minInclusive", codes "P1M") ∷ (codes "maxInclusive", codes "P31D") ∷ []) ≡ None
unfolding duration_of collapse pieces written_limits
no_order = refl

in_order : is_some (written_limits durations [] ((codes "minInclusive", codes "P1M") ∷ (codes "maxInclusive", codes "P32D") ∷ [])) ≡ true
unfolding duration_of collapse pieces written_limits
in_order = refl

two_lower : written_limits durations [] ((codes "minInclusive", codes "P1M") ∷ (codes "minExclusive", codes "P1D") ∷ []) ≡ None
unfolding duration_of collapse pieces written_limits
two_lower = refl

twice : written_limits durations [] ((codes "minInclusive", codes "P1M") ∷ (codes "minInclusive", codes "P1M") ∷ []) ≡ None
unfolding duration_of collapse pieces written_limits
twice = refl

no_value : written_limits durations [] ((codes "minInclusive", codes "1") ∷ []) ≡ None
unfolding duration_of collapse pieces written_limits
no_value = refl

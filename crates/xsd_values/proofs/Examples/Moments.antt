-- Worked cases of moments, which the checker computes.
use Rattle.std.proofs.Common.{codes, ◌≡◌, ℕ, List, [], ◌∷◌, refl, true, Bool, Option, is_some, is_none}
use Rattle.std.specs.List.{list_all}
use Rattle.rng_model.specs.xsd.primitives.Zones.{Moment}
use Rattle.rng_model.specs.xsd.primitives.Moments.{date_time_of, time_of, date_of, year_month_of, year_of, month_day_of, day_of, month_of}

abbrev are_moments : (List ℕ → Option Moment) → List (List ℕ) → Bool
are_moments moment_of texts = list_all (λ s. is_some (moment_of s)) texts

abbrev are_none : (List ℕ → Option Moment) → List (List ℕ) → Bool
are_none moment_of texts = list_all (λ s. is_none (moment_of s)) texts

-- ---- dateTime (section 3.2.7)

date_times : are_moments date_time_of (
    codes "2000-01-01T00:00:00" ∷ codes "2000-01-01T00:00:00Z" ∷
    codes "2000-01-01T24:00:00" ∷  -- where the next day begins
    codes "2000-01-01T00:00:00.1234567890" ∷
    codes "-0001-01-01T00:00:00" ∷  -- the year before 0001
    codes "12000-01-01T00:00:00" ∷
    codes "-0005-02-29T00:00:00" ∷  -- a leap year, since there is no year 0
    codes "2000-01-01T00:00:00+14:00" ∷ codes "2000-01-01T00:00:00-00:00" ∷ []) ≡ true
unfolding date_time_of
date_times = refl

no_date_times : are_none date_time_of (
    codes "2000-01-01T24:00:01" ∷  -- past the end of the day
    codes "2000-01-01T25:00:00" ∷ codes "2000-01-01T00:60:00" ∷
    codes "2000-01-01T23:59:60" ∷  -- no leap seconds
    codes "2000-01-01T00:00:00." ∷  -- a point without digits
    codes "2000-01-01T00:00:00.1234567890123456789" ∷  -- more than 18 digits
    codes "0000-01-01T00:00:00" ∷  -- no year 0
    codes "00001-01-01T00:00:00" ∷  -- a zero in front of more than four digits
    codes "012000-01-01T00:00:00" ∷
    codes "99999999999-01-01T00:00:00" ∷  -- more than 10 digits
    codes "+2000-01-01T00:00:00" ∷
    codes "2000-02-30T00:00:00" ∷  -- no such day
    codes "1900-02-29T00:00:00" ∷ codes "-0004-02-29T00:00:00" ∷
    codes "2000-01-01T00:00:00+14:01" ∷  -- past the greatest offset
    codes "2000-01-01T00:00:00+15:00" ∷ codes "2000-01-01" ∷ codes "2000-01-01t00:00:00" ∷ codes "2000-1-1T0:0:0" ∷ []) ≡ true
unfolding date_time_of
no_date_times = refl

-- ---- the other types (sections 3.2.8 to 3.2.14)

dates : are_moments date_of (codes "2000-01-01" ∷ codes "2000-02-29" ∷ codes "2000-01-01+05:00" ∷ []) ≡ true
unfolding date_of
dates = refl

no_dates : are_none date_of (codes "2000-13-01" ∷ codes "2000-00-01" ∷ codes "2000-01-00" ∷ codes "2000-01-32" ∷ []) ≡ true
unfolding date_of
no_dates = refl

times : are_moments time_of (codes "12:00:00.5Z" ∷ codes "24:00:00" ∷ codes "13:20:00-05:00" ∷ []) ≡ true
unfolding time_of
times = refl

no_times : are_none time_of (codes "12:00" ∷ codes "24:00:00.1" ∷ codes "1:00:00" ∷ []) ≡ true
unfolding time_of
no_times = refl

years : are_moments year_of (codes "2000" ∷ codes "-2000" ∷ codes "20000" ∷ codes "2000Z" ∷ []) ≡ true
unfolding year_of
years = refl

no_years : are_none year_of (codes "200" ∷ codes "0000" ∷ codes "02000" ∷ []) ≡ true
unfolding year_of
no_years = refl

year_months : are_moments year_month_of (codes "2000-01" ∷ codes "1999-05" ∷ []) ≡ true
unfolding year_month_of
year_months = refl

no_year_months : are_none year_month_of (codes "2000-13" ∷ codes "2000" ∷ []) ≡ true
unfolding year_month_of
no_year_months = refl

months : are_moments month_of (codes "--01" ∷ codes "--01Z" ∷ []) ≡ true
unfolding month_of
months = refl

no_months : are_none month_of (codes "--13" ∷ codes "--01--" ∷ codes "--1" ∷ []) ≡ true
unfolding month_of
no_months = refl

month_days : are_moments month_day_of (codes "--02-29" ∷ codes "--12-31" ∷ []) ≡ true
unfolding month_day_of
month_days = refl

no_month_days : are_none month_day_of (codes "--02-30" ∷ codes "--04-31" ∷ codes "--13-01" ∷ []) ≡ true
unfolding month_day_of
no_month_days = refl

days : are_moments day_of (codes "---31" ∷ codes "---01" ∷ []) ≡ true
unfolding day_of
days = refl

no_days : are_none day_of (codes "---32" ∷ codes "---00" ∷ codes "--31" ∷ []) ≡ true
unfolding day_of
no_days = refl

-- Worked cases of moments that are equal, and of the order of moments, which the checker computes.
use Rattle.std.proofs.Common.{codes, ◌≡◌, ℕ, List, [], ◌∷◌, refl, true, false, Bool, Option, Some, None, ◌&&◌, not}
use Rattle.std.specs.List.{list_all, list_any}
use Rattle.rng_model.specs.datatypes.Texts.{collapse, pieces}
use Rattle.rng_model.specs.xsd.Limits.{written_limits}
use Rattle.rng_model.specs.xsd.primitives.Zones.{Moment, is_before}
use Rattle.rng_model.specs.xsd.primitives.Moments.{date_time_of, time_of, date_of, year_of}
use Rattle.rng_model.specs.regexes.Patterns.{patterns_of}
use Rattle.xsd_values.proofs.Examples.Tables.{allows, equates}

-- ---- equality

abbrev are_equal : List ℕ → List (List ℕ × List ℕ) → Bool
are_equal name ps = list_all (λ p. equates name p.0 p.1) ps

abbrev are_unequal : List ℕ → List (List ℕ × List ℕ) → Bool
are_unequal name ps = list_all (λ p. not (equates name p.0 p.1)) ps

same_instant : are_equal (codes "dateTime") (
    (codes "2000-01-01T00:00:00Z", codes "1999-12-31T19:00:00.0-05:00") ∷
    (codes "2000-01-01T24:00:00", codes "2000-01-02T00:00:00") ∷
    (codes "2000-03-04T23:00:00+03:00", codes "2000-03-04T20:00:00Z") ∷  -- of section 3.2.7.4
    []) ≡ true
unfolding date_time_of collapse pieces written_limits patterns_of
same_instant = refl

another_instant : are_unequal (codes "dateTime") (
    (codes "2000-01-01T00:00:00Z", codes "2000-01-01T00:00:00") ∷  -- a time zone, and none
    (codes "2000-01-01T00:00:00.0001", codes "2000-01-01T00:00:00.0") ∷  -- less than a millisecond
    []) ≡ true
unfolding date_time_of collapse pieces written_limits patterns_of
another_instant = refl

same_day : are_equal (codes "date") (
    (codes "2002-10-10+13:00", codes "2002-10-09-11:00") ∷  -- of section 3.2.9
    []) ≡ true
unfolding date_of collapse pieces written_limits patterns_of
same_day = refl

another_day : are_unequal (codes "date") (
    (codes "2000-01-01Z", codes "2000-01-01+12:00") ∷ (codes "2000-01-01", codes "2000-01-01Z") ∷ []) ≡ true
unfolding date_of collapse pieces written_limits patterns_of
another_day = refl

same_time : are_equal (codes "time") (
    (codes "00:00:00Z", codes "05:00:00+05:00") ∷
    (codes "00:00:00Z", codes "19:00:00-05:00") ∷  -- the same time of day
    (codes "00:00:00Z", codes "24:00:00Z") ∷ []) ≡ true
unfolding time_of collapse pieces written_limits patterns_of
same_time = refl

another_year : are_unequal (codes "gYear") (
    (codes "2000", codes "2000Z") ∷ []) ≡ true
unfolding year_of collapse pieces written_limits patterns_of
another_year = refl

-- ---- order: the table of section 3.2.7.4

abbrev tested : (Moment → Moment → Bool) → Option Moment → Option Moment → Bool
tested test None b = false
tested test (Some a) None = false
tested test (Some a) (Some b) = test a b

abbrev are_before : List (List ℕ × List ℕ) → Bool
are_before ps = list_all (λ p. tested is_before (date_time_of p.0) (date_time_of p.1)) ps

abbrev are_neither : List (List ℕ × List ℕ) → Bool
are_neither ps = list_all (λ p. tested (λ a b. not (is_before a b) && not (is_before b a)) (date_time_of p.0) (date_time_of p.1)) ps

determinate : are_before (
    (codes "2000-01-15T00:00:00", codes "2000-02-15T00:00:00") ∷
    (codes "2000-01-15T12:00:00", codes "2000-01-16T12:00:00Z") ∷
    (codes "2000-01-01T00:00:00Z", codes "2000-01-01T14:00:00.001") ∷ []) ≡ true
unfolding date_time_of
determinate = refl

indeterminate : are_neither (
    (codes "2000-01-01T12:00:00", codes "1999-12-31T23:00:00Z") ∷
    (codes "2000-01-16T12:00:00", codes "2000-01-16T12:00:00Z") ∷
    (codes "2000-01-16T00:00:00", codes "2000-01-16T12:00:00Z") ∷
    (codes "2000-01-01T00:00:00Z", codes "2000-01-01T14:00:00") ∷ []) ≡ true
unfolding date_time_of
indeterminate = refl

-- ---- bounds

at_bound : allows (codes "dateTime") ((codes "minInclusive", codes "2000-01-01T00:00:00Z") ∷ []) (codes "1999-12-31T19:00:00-05:00") ≡ true
unfolding date_time_of collapse pieces written_limits patterns_of
at_bound = refl

undecided : allows (codes "dateTime") ((codes "minInclusive", codes "2000-01-01T00:00:00Z") ∷ []) (codes "2000-01-01T14:00:00") ≡ false
unfolding date_time_of collapse pieces written_limits patterns_of
undecided = refl

decided : allows (codes "dateTime") ((codes "maxExclusive", codes "2000-01-01T00:00:00") ∷ []) (codes "1999-12-31T09:59:59Z") ≡ true
unfolding date_time_of collapse pieces written_limits patterns_of
decided = refl

-- ---- bounds of times, which are compared as dateTimes of one arbitrary date (section 3.2.8)

-- the working hours of a zone in which the day of Coordinated Universal Time begins at nine
abbrev nine_hours : List (List ℕ × List ℕ)
nine_hours = (codes "minInclusive", codes "08:00:00+09:00") ∷ (codes "maxInclusive", codes "17:00:00+09:00") ∷ []

inside : list_all (allows (codes "time") nine_hours) (
    codes "08:00:00+09:00" ∷ codes "08:59:59+09:00" ∷ codes "09:00:00+09:00" ∷ codes "17:00:00+09:00" ∷
    codes "00:00:00Z" ∷ codes "03:00:00-05:00" ∷ []) ≡ true
unfolding time_of collapse pieces written_limits patterns_of
inside = refl

outside : list_any (allows (codes "time") nine_hours) (
    codes "07:59:59+09:00" ∷ codes "17:00:00.001+09:00" ∷ codes "22:59:59Z" ∷ codes "08:00:01Z" ∷
    codes "23:00:00Z" ∷  -- the moment of the day at which the lower bound is, one day later
    codes "09:00:00" ∷  -- without a time zone
    []) ≡ false
unfolding time_of collapse pieces written_limits patterns_of
outside = refl

-- the same moment of the day is the same time
at_bound_of_times : allows (codes "time") ((codes "minInclusive", codes "23:00:00Z") ∷ []) (codes "08:00:00+09:00") ≡ true
unfolding time_of collapse pieces written_limits patterns_of
at_bound_of_times = refl

-- 24:00:00 is where the next day begins
whole_day : allows (codes "time") ((codes "minInclusive", codes "00:00:00Z") ∷ (codes "maxInclusive", codes "24:00:00Z") ∷ []) (codes "12:00:00Z") ≡ true
unfolding time_of collapse pieces written_limits patterns_of
whole_day = refl

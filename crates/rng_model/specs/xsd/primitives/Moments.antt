-- dateTime, time, date, gYearMonth, gYear, gMonthDay, gDay and gMonth: the moment that a text writes (XML Schema Part 2, Second
-- Edition, sections 3.2.7 to 3.2.14).
use Rattle.std.specs.Prelude.{ℕ, ◌+◌, ◌*◌, ◌%◌, List, [], ◌∷◌, length, Bool, true, false, not, ◌&&◌, ◌||◌, ◌==◌}
use Rattle.std.specs.Prelude.{nat_le, nat_lt, if◌then◌else◌, Option, Some, None}
use Rattle.std.specs.Str.Parse.{digits_value}
use Rattle.rng_model.specs.datatypes.Texts.{collapse}
use Rattle.rng_model.specs.xsd.Limits.{Ordered}
use Rattle.rng_model.specs.xsd.primitives.Calendar.{year_one, year_numbered, days_in_month, begins, second, minute, hour, day}
use Rattle.rng_model.specs.xsd.primitives.Fronts.{Front, ◌>>=◌, after, two_digits, first_digits, past_digits, fraction_at}
use Rattle.rng_model.specs.xsd.primitives.Zones.{Moment, same_moment, is_before, with_zone}

-- ---- dates and times

-- The greatest number of digits of a year. The standard asks for 4 at least (section 3.2.7).
abbrev pub most_year_digits : ℕ
most_year_digits = 10

-- four digits or more, more than four without a zero in front, and not 0000 (section 3.2.7.1)
abbrev pub are_year_digits : List ℕ → Bool
are_year_digits [] = false
are_year_digits (d ∷ ds) =
    (nat_le 4 (length (d ∷ ds)) && nat_le (length (d ∷ ds)) most_year_digits) &&
    (((length ds == 3) || not (d == 0x30)) && nat_lt 0 (digits_value 10 (d ∷ ds)))

abbrev pub year_with : Bool → List ℕ → Option Front
year_with minus s =
    if are_year_digits (first_digits s) then Some (year_numbered minus (digits_value 10 (first_digits s)), past_digits s) else None

abbrev pub year_at : List ℕ → Option Front
year_at [] = None
year_at (c ∷ rest) = if c == 0x2D then year_with true rest else year_with false (c ∷ rest)

-- `-` and a number of two digits
abbrev pub hyphen_and : ℕ → List ℕ → Option Front
hyphen_and greatest s = after 0x2D s >>= two_digits 1 greatest

-- the day of the month of a year, if the month has it
abbrev pub day_at : ℕ → ℕ → List ℕ → Option Front
day_at y m s = do
  d ← hyphen_and 31 s
  if nat_le d.0 (days_in_month y m) then Some (begins y m d.0, d.1) else None

abbrev pub date_at : List ℕ → Option Front
date_at s = do
  y ← year_at s
  m ← hyphen_and 12 y.1
  day_at y.0 m.0 m.1

-- 24:00:00 is where the next day begins (section 3.2.7.1)
abbrev pub clock_if : ℕ → List ℕ → Option Front
clock_if n rest = if nat_le n day then Some (n, rest) else None

-- `hh:mm:ss`, and perhaps a fraction
abbrev pub clock_at : List ℕ → Option Front
clock_at s = do
  h ← two_digits 0 24 s
  first ← after 0x3A h.1
  m ← two_digits 0 59 first
  next ← after 0x3A m.1
  q ← two_digits 0 59 next
  f ← fraction_at q.1
  clock_if (h.0 * hour + (m.0 * minute + (q.0 * second + f.0))) f.1

-- ---- the types

-- section 3.2.7
unfoldable pub date_time_of : List ℕ → Option Moment
date_time_of s = do
  d ← date_at s
  rest ← after 0x54 d.1
  c ← clock_at rest
  with_zone (d.0 + c.0, c.1)

-- A time recurs every day. This is its moment on one arbitrary day (section 3.2.8).
unfoldable pub time_of : List ℕ → Option Moment
time_of s = do
  c ← clock_at s
  with_zone (day + c.0, c.1)

-- the moment of the day, counted from where the day begins
abbrev pub each_day : Moment → Moment
each_day m = record { zoned = m.zoned; at = m.at % day }

-- Times are in the order of their moments on the one day. Two are equal if they are the same moment of the day.
abbrev pub times : Ordered Moment
times = record {
  value_of = λ s. time_of (collapse s);
  has = λ m. true;
  is_at_most = λ a b. same_moment (each_day a) (each_day b) || is_before a b;
  is_less = is_before;
}

-- a date, a month and a year are where they begin (sections 3.2.9 to 3.2.11)
unfoldable pub date_of : List ℕ → Option Moment
date_of s = date_at s >>= with_zone

unfoldable pub year_month_of : List ℕ → Option Moment
year_month_of s = do
  y ← year_at s
  m ← hyphen_and 12 y.1
  with_zone (begins y.0 m.0 1, m.1)

unfoldable pub year_of : List ℕ → Option Moment
year_of s = do
  y ← year_at s
  with_zone (begins y.0 1 1, y.1)

-- What recurs every year or every month is where it begins in a year that has every day, and in a month that has every day
-- (sections 3.2.12 to 3.2.14).
abbrev pub any_year : ℕ
any_year = year_one + 1999

unfoldable pub month_day_of : List ℕ → Option Moment
month_day_of s = do
  rest ← after 0x2D s
  m ← hyphen_and 12 rest
  d ← day_at any_year m.0 m.1
  with_zone d

unfoldable pub day_of : List ℕ → Option Moment
day_of s = do
  first ← after 0x2D s
  next ← after 0x2D first
  d ← hyphen_and 31 next
  with_zone (begins any_year 1 d.0, d.1)

unfoldable pub month_of : List ℕ → Option Moment
month_of s = do
  rest ← after 0x2D s
  m ← hyphen_and 12 rest
  with_zone (begins any_year m.0 1, m.1)

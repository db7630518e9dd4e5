-- duration: which one a text writes, and which is less (XML Schema Part 2, Second Edition, section 3.2.6).
use Rattle.std.specs.Prelude.{ℕ, ◌+◌, ◌-◌, ◌*◌, ◌/◌, ◌%◌, ◌^◌, List, [], ◌∷◌, length, Bool, true, false, not, ◌&&◌, ◌||◌, ◌==◌, nat_lt, if◌then◌else◌}
use Rattle.std.specs.Prelude.{Option, Some, None}
use Rattle.std.specs.Bool.{beq}
use Rattle.std.specs.List.{list_all}
use Rattle.std.specs.Str.Parse.{digits_value}
use Rattle.rng_model.specs.datatypes.Texts.{has_bytes, collapse}
use Rattle.rng_model.specs.xsd.Limits.{Ordered}
use Rattle.rng_model.specs.xsd.primitives.Calendar.{begins, second, minute, hour, day}
use Rattle.rng_model.specs.xsd.primitives.Fronts.{Front, ◌>>=◌, after, first_digits, past_digits, fraction_at}

-- A duration: years, months, days, hours, minutes and seconds, these in units of 10 ^ -18, all with one sign. Two are the same
-- only if all six numbers are: a value has six dimensions (section 3.2.6). Zero has no sign.
pub record Duration : Type 0 where
  pub negative : Bool
  pub years : ℕ
  pub months : ℕ
  pub days : ℕ
  pub hours : ℕ
  pub minutes : ℕ
  pub seconds : ℕ

abbrev pub same_date_part : Duration → Duration → Bool
same_date_part a b = (a.years == b.years) && ((a.months == b.months) && (a.days == b.days))

abbrev pub same_time_part : Duration → Duration → Bool
same_time_part a b = (a.hours == b.hours) && ((a.minutes == b.minutes) && (a.seconds == b.seconds))

abbrev pub same_duration : Duration → Duration → Bool
same_duration a b = beq a.negative b.negative && (same_date_part a b && same_time_part a b)

-- ---- which duration a text writes (section 3.2.6.1)

-- Each of the six numbers is below this limit: 18 digits are read, without zeros in front and without a fraction. The standard
-- asks for as many of a decimal at least (section 3.2.3).
abbrev pub number_limit : ℕ
number_limit = 10 ^ 18

abbrev pub is_number : List ℕ → Bool
is_number ds = has_bytes ds && nat_lt (digits_value 10 ds) number_limit

-- A number that is 0 may be left out (section 3.2.6.1).
abbrev pub number_if : Bool → ℕ → List ℕ → Option (List ℕ) → Front
number_if right n s None = (0, s)
number_if right n s (Some rest) = if right then (n, rest) else (0, s)

-- a number and this letter behind it, or neither
abbrev pub number_before : ℕ → List ℕ → Front
number_before letter s = number_if (is_number (first_digits s)) (digits_value 10 (first_digits s)) s (after letter (past_digits s))

-- the same of seconds, which may have a fraction
abbrev pub seconds_with : List ℕ → Option Front → Front
seconds_with s None = (0, s)
seconds_with s (Some f) = number_if (is_number (first_digits s)) (digits_value 10 (first_digits s) * second + f.0) s (after 0x53 f.1)

abbrev pub seconds_at : List ℕ → Front
seconds_at s = seconds_with s (fraction_at (past_digits s))

-- hours, minutes and seconds, one of them at least
abbrev pub time_fields : List ℕ → Option (ℕ × ℕ × ℕ)
time_fields s =
    let h = number_before 0x48 s in
    let m = number_before 0x4D h.1 in
    let q = seconds_at m.1 in
    if has_bytes s && (length q.1 == 0) then Some (h.0, m.0, q.0) else None

-- `T` and these numbers, or nothing
abbrev pub time_part : List ℕ → Option (ℕ × ℕ × ℕ)
time_part [] = Some (0, 0, 0)
time_part (c ∷ rest) = if c == 0x54 then time_fields rest else None

abbrev pub is_zero : ℕ × ℕ × ℕ → Bool
is_zero t = (t.0 == 0) && ((t.1 == 0) && (t.2 == 0))

abbrev pub duration_with : Bool → ℕ × ℕ × ℕ → ℕ × ℕ × ℕ → Duration
duration_with minus d t = record {
  negative = minus && not (is_zero d && is_zero t);
  years = d.0;
  months = d.1;
  days = d.2;
  hours = t.0;
  minutes = t.1;
  seconds = t.2;
}

-- years, months and days, and the time of day behind them: one number at least
abbrev pub duration_fields : Bool → List ℕ → Option Duration
duration_fields minus s =
    let y = number_before 0x59 s in
    let m = number_before 0x4D y.1 in
    let d = number_before 0x44 m.1 in
    if has_bytes s then (time_part d.1 >>= λ t. Some (duration_with minus (y.0, m.0, d.0) t)) else None

-- an optional minus, and `P`
unfoldable pub duration_of : List ℕ → Option Duration
duration_of [] = None
duration_of (c ∷ rest) =
    if c == 0x2D then after 0x50 rest >>= duration_fields true else after 0x50 (c ∷ rest) >>= duration_fields false

-- ---- order: a duration is less if the moment is earlier when it is added to each of four moments (section 3.2.6.2), of which
-- each begins a month

abbrev pub months_in : Duration → ℕ
months_in d = d.years * 12 + d.months

abbrev pub time_in : Duration → ℕ
time_in d = d.days * day + d.hours * hour + d.minutes * minute + d.seconds

-- The years before the year 1, a multiple of 400 of them, from the first one of the calendar on. They are so many that no month
-- is negative that is reached below.
abbrev pub years_before : ℕ
years_before = 4 * 10 ^ 20

-- where the month begins that is so many months after the first one of the calendar
abbrev pub month_begins : ℕ → ℕ
month_begins k = begins (k / 12) (k % 12 + 1) 1

-- Adding a duration to the beginning of a month: first its months, and then its days and its time (appendix E).
abbrev pub added_to : ℕ → Duration → ℕ
added_to k d = if d.negative then month_begins (k - months_in d) - time_in d else month_begins (k + months_in d) + time_in d

-- the months that begin with 1696-09-01, 1697-02-01, 1903-03-01 and 1903-07-01
abbrev pub four_months : List ℕ
four_months =
    ((years_before + 1696) * 12 + 8) ∷ ((years_before + 1697) * 12 + 1) ∷
    ((years_before + 1903) * 12 + 2) ∷ ((years_before + 1903) * 12 + 6) ∷ []

abbrev pub is_less : Duration → Duration → Bool
is_less a b = list_all (λ k. nat_lt (added_to k a) (added_to k b)) four_months

-- Two are equal in the order if they have the same sign, and are as many months and as many seconds.
abbrev pub is_as_long : Duration → Duration → Bool
is_as_long a b = beq a.negative b.negative && ((months_in a == months_in b) && (time_in a == time_in b))

abbrev pub durations : Ordered Duration
durations = record {
  value_of = λ s. duration_of (collapse s);
  has = λ d. true;
  is_at_most = λ a b. is_as_long a b || is_less a b;
  is_less = is_less;
}

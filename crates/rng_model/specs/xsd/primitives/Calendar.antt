-- The calendar: years, months and days, and the timeline (XML Schema Part 2, Second Edition, sections 3.2.7 and appendices D
-- and E: the Gregorian calendar for all years).
use Rattle.std.specs.Prelude.{ℕ, zero, suc, ◌+◌, ◌-◌, ◌*◌, ◌/◌, ◌%◌, ◌^◌, Bool, not, ◌&&◌, ◌||◌, ◌==◌, if◌then◌else◌}

-- ---- years

-- Years are counted from one so long before our era that none is negative. This is the year 1. It is one more than a multiple
-- of 400, so the calendar repeats as it does from the year 1 on.
abbrev pub year_one : ℕ
year_one = 10000000001

-- The year that is written with this number, with a minus or not. There is no year 0, so -1 is the year before 1 (section
-- 3.2.7.1).
abbrev pub year_numbered : Bool → ℕ → ℕ
year_numbered minus n = if minus then year_one - n else year_one - 1 + n

abbrev pub is_leap : ℕ → Bool
is_leap y = (y % 4 == 0) && (not (y % 100 == 0) || (y % 400 == 0))

-- the multiples of k that are less than n
abbrev pub multiples_below : ℕ → ℕ → ℕ
multiples_below k n = (n + (k - 1)) / k

-- the days before the year: 365 for each year, and one more for each leap year
abbrev pub days_before_year : ℕ → ℕ
days_before_year y = y * 365 + multiples_below 4 y + multiples_below 400 y - multiples_below 100 y

-- ---- months and days

abbrev pub days_in_month : ℕ → ℕ → ℕ
days_in_month y m =
    if m == 2 then (if is_leap y then 29 else 28) else
    if (m == 4) || ((m == 6) || ((m == 9) || (m == 11))) then 30 else 31

-- the days of so many months of the year, from its first one on
abbrev pub days_of_months : ℕ → ℕ → ℕ
days_of_months y zero = 0
days_of_months y (suc m) = days_of_months y m + days_in_month y (suc m)

-- the days before the day of the month of the year
abbrev pub days_before : ℕ → ℕ → ℕ → ℕ
days_before y m d = days_before_year y + days_of_months y (m - 1) + (d - 1)

-- ---- the timeline, in units of 10 ^ -18 s, the smallest fraction of a second that is read

abbrev pub second : ℕ
second = 10 ^ 18

abbrev pub minute : ℕ
minute = 60 * second

abbrev pub hour : ℕ
hour = 60 * minute

abbrev pub day : ℕ
day = 24 * hour

-- where the day begins
abbrev pub begins : ℕ → ℕ → ℕ → ℕ
begins y m d = days_before y m d * day

-- How far the moments go that texts write: nothing that is read overflows.
use Rattle.std.specs.Prelude.{ℕ, ◌+◌, ◌^◌}
use Rattle.rng_model.specs.xsd.primitives.Calendar.{year_one}

-- the year 9999999999, the last of ten digits
abbrev pub last_year : ℕ
last_year = year_one + 9999999998

-- more days than there are before the end of that year
abbrev pub most_days : ℕ
most_days = 8000000000000

-- a number of units that comes after the end of that year
abbrev pub end_of_timeline : ℕ
end_of_timeline = 10 ^ 36

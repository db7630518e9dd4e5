-- The views of what the code reads, and of durations.
use Rattle.std.specs.Prelude.{ℕ, ◌+◌, ◌*◌, List}
use Rattle.std.specs.Borrow.{Bor}
use Rattle.rng_types.specs.plain.Runs.{from_run}
use Rattle.rng_model.specs.xsd.primitives.Calendar.{second}
use Rattle.rng_model.specs.xsd.primitives.Fronts.{Front}
use Rattle.rng_model.specs.xsd.primitives.Durations as durations
use Rattle.xsd_durations.specs.declared.duration.Duration.{Duration}
use Rattle.xsd_durations.specs.declared.order.End.{End}
use Rattle.xsd_durations.specs.declared.reading.DatePart.{DatePart}
use Rattle.xsd_durations.specs.declared.reading.TimePart.{TimePart}

-- a number, and what the rest of the bytes collapses to
abbrev pub seen : ℕ × Bor (List ℕ) → Front
seen f = (f.0, from_run f.1.now)

abbrev pub date_of : DatePart → ℕ × ℕ × ℕ
date_of d = (d.years, d.months, d.days)

abbrev pub time_of : TimePart → ℕ × ℕ × ℕ
time_of t = (t.hours, t.minutes, t.seconds)

abbrev pub duration_view : Duration → durations.Duration
duration_view d = record {
  negative = d.negative;
  years = d.years;
  months = d.months;
  days = d.days;
  hours = d.hours;
  minutes = d.minutes;
  seconds = d.seconds;
}

-- where a duration ends, in units of 10 ^ -18 s
abbrev pub end_view : End → ℕ
end_view e = e.seconds * second + e.units

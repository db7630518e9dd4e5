use Rattle.std.proofs.Common.{◌≡◌, ◌≤◌, ◌*◌}
use Rattle.rng_model.specs.xsd.primitives.Calendar.{days_of_months}
use Rattle.xsd_durations.proofs.calendar.days_of_months.Given as goal

abbrev pub invariant-months : goal.invariant-months
invariant-months l = record {
  value : l.days ≡ days_of_months l.year l.month;
  few : l.days ≤ 31 * l.month;
}

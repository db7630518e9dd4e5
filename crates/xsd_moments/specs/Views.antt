-- The moments, zones and kinds of the code, as the definitions have them.
use Rattle.std.specs.Prelude.{ℕ, List, Option}
use Rattle.rng_model.specs.xsd.Limits.{Ordered}
use Rattle.rng_model.specs.xsd.primitives.Zones as zones
use Rattle.rng_model.specs.xsd.primitives.Zones.{ordered_by}
use Rattle.rng_model.specs.xsd.primitives.Moments.{date_time_of, date_of, year_month_of, year_of, month_day_of, day_of, month_of}
use Rattle.xsd_moments.specs.declared.moment.Moment.{Moment}
use Rattle.xsd_moments.specs.declared.time.Time.{Time}
use Rattle.xsd_moments.specs.declared.kind.MomentKind.TheVariants as kinds
use Rattle.xsd_moments.specs.declared.kind.MomentKind.{MomentKind}
use Rattle.xsd_moments.specs.declared.zones.Zone.TheVariants as written
use Rattle.xsd_moments.specs.declared.zones.Zone.{Zone}

abbrev pub moment_of : Moment → zones.Moment
moment_of m = record { zoned = m.zoned; at = m.at }

-- the moment of a time on one arbitrary day
abbrev pub time_view : Time → zones.Moment
time_view t = moment_of t.moment

abbrev pub zone_of : Zone → zones.Zone
zone_of written.Unknown = zones.unknown
zone_of (written.Ahead minutes) = zones.ahead minutes
zone_of (written.Behind minutes) = zones.behind minutes

-- the moment that a collapsed text writes
abbrev pub moment_by : MomentKind → List ℕ → Option zones.Moment
moment_by kinds.DateTime = date_time_of
moment_by kinds.Date = date_of
moment_by kinds.YearMonth = year_month_of
moment_by kinds.Year = year_of
moment_by kinds.MonthDay = month_day_of
moment_by kinds.Day = day_of
moment_by kinds.Month = month_of

-- the values of a type, and their order
abbrev pub ordered_of : MomentKind → Ordered zones.Moment
ordered_of kind = ordered_by (moment_by kind)

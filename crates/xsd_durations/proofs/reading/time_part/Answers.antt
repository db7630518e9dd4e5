use Rattle.std.proofs.Common.{◌∙◌, sym}
use Rattle.rng_types.specs.plain.Runs.{from_run}
use Rattle.xsd_durations.proofs.FrontRuns.{ends-run}
use Rattle.xsd_durations.proofs.Steps.{time_none, time_at, time_other}
use Rattle.xsd_durations.proofs.reading.time_part.Goals as goal

pub returns-then-is_blank : goal.returns-then-is_blank
returns-then-is_blank c = time_none c.args.text.now (sym c.is_blank.ensures ∙ c.if-is_blank.true)

pub returns-in-Some : goal.returns-in-Some
returns-in-Some c = c.time_fields.ensures ∙ time_at (from_run c.args.text.now) (from_run c.in-Some.rest.now) c.in-Some.ensures

pub returns-in-None : goal.returns-in-None
returns-in-None c = time_other (from_run c.args.text.now) (ends-run c.args.text.now ∙ (sym c.is_blank.ensures ∙ c.if-is_blank.false)) c.in-None.ensures

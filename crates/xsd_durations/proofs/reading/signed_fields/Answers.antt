use Rattle.std.proofs.Common.{◌∙◌}
use Rattle.rng_types.specs.plain.Runs.{from_run}
use Rattle.xsd_durations.proofs.Steps.{minus_is, no_minus}
use Rattle.xsd_durations.proofs.reading.signed_fields.Goals as goal

pub returns-in-Some : goal.returns-in-Some
returns-in-Some c = c.period.ensures ∙ minus_is (from_run c.args.text.now) (from_run c.in-Some.rest.now) c.in-Some.ensures

pub returns-in-None : goal.returns-in-None
returns-in-None c = c.period-in-None.ensures ∙ no_minus (from_run c.args.text.now) c.in-None.ensures

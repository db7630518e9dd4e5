use Rattle.std.proofs.Common.{ap, ◌∙◌, sym}
use Rattle.rng_types.specs.plain.Runs.{past_blanks, from_run}
use Rattle.rng_types.proofs.CollapsedBytes.{collapse-past}
use Rattle.xsd_moments.specs.Views.{moment_by}
use Rattle.xsd_moments.proofs.moment.Moment.read.Goals as goal

pub returns : goal.returns
returns c =
    c.read_run.ensures
    ∙ ap (λ s. moment_by c.args.kind (from_run s)) (c.past_blanks.ensures.past ∙ ap past_blanks c.as_bytes.ensures.value)
    ∙ sym (ap (moment_by c.args.kind) (collapse-past c.args.text.now))

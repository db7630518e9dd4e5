use Rattle.std.proofs.Common.{ap, ◌∙◌, sym}
use Rattle.rng_types.specs.plain.Runs.{past_blanks, from_run}
use Rattle.rng_types.proofs.CollapsedBytes.{collapse-past}
use Rattle.rng_model.specs.xsd.primitives.Durations.{duration_of}
use Rattle.xsd_durations.proofs.duration.Duration.read.Goals as goal

pub returns : goal.returns
returns c =
    c.signed_fields.ensures
    ∙ (ap (λ s. duration_of (from_run s)) (c.past_blanks.ensures.past ∙ ap past_blanks c.as_bytes.ensures.value)
    ∙ sym (ap duration_of (collapse-past c.args.text.now)))

use Rattle.std.proofs.Common.{ap, ◌∙◌, sym}
use Rattle.rng_types.specs.plain.Runs.{past_blanks, from_run}
use Rattle.rng_types.proofs.CollapsedBytes.{collapse-past}
use Rattle.rng_model.specs.xsd.primitives.Moments.{time_of}
use Rattle.xsd_moments.proofs.time.Time.read.Goals as goal

pub returns : goal.returns
returns c =
    c.read_time.ensures
    ∙ ap (λ s. time_of (from_run s)) (c.past_blanks.ensures.past ∙ ap past_blanks c.as_bytes.ensures.value)
    ∙ sym (ap time_of (collapse-past c.args.text.now))

use Rattle.std.proofs.Common.{ap, ◌∙◌, sym}
use Rattle.rng_types.specs.plain.Runs.{past_blanks, from_run}
use Rattle.rng_types.proofs.CollapsedBytes.{collapse-past}
use Rattle.rng_model.specs.xsd.primitives.Decimals.{decimal_of}
use Rattle.xsd_decimals.proofs.reading.read_number.Goals as goal

pub returns-clause-value : goal.returns-clause-value
returns-clause-value c =
    c.number_in.ensures.value
    ∙ ap (λ s. decimal_of (from_run s)) (c.past_blanks.ensures.past ∙ ap past_blanks c.as_bytes.ensures.value)
    ∙ sym (ap decimal_of (collapse-past c.args.text.now))

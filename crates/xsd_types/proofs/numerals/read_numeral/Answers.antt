use Rattle.std.proofs.Common.{ap, ◌∙◌, sym}
use Rattle.rng_model.specs.xsd.Numbers.{integer_of}
use Rattle.rng_types.specs.plain.Runs.{past_blanks, from_run}
use Rattle.rng_types.proofs.CollapsedBytes.{collapse-past}
use Rattle.xsd_types.proofs.numerals.read_numeral.Goals as goal

pub returns-clause-value : goal.returns-clause-value
returns-clause-value c =
    c.numeral_in.ensures.value
    ∙ ap (λ s. integer_of (from_run s)) (c.past_blanks.ensures.past ∙ ap past_blanks c.as_bytes.ensures.value)
    ∙ sym (ap integer_of (collapse-past c.args.text.now))

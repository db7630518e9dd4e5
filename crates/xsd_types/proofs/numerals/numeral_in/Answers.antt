use Rattle.std.proofs.Common.{ap, ◌∙◌, sym}
use Rattle.rng_model.specs.xsd.Numbers.{are_digits}
use Rattle.rng_types.specs.plain.Runs.{from_run}
use Rattle.rng_types.proofs.CollapsedBytes.{unsigned-run}
use Rattle.xsd_types.proofs.NumeralRuns.{minus-run}
use Rattle.xsd_types.proofs.Signs.{no_integer, numeral_value, all_digits}
use Rattle.xsd_types.proofs.numerals.numeral_in.Goals as goal

pub returns-in-Some-clause-value : goal.returns-in-Some-clause-value
returns-in-Some-clause-value c =
    numeral_value (from_run c.args.bytes.now) c.in-Some.digits.now c.signed.result.digits.now _ _
    (sym c.in-Some.ensures.1 ∙ ap from_run c.without_sign.ensures ∙ unsigned-run c.args.bytes.now)
    (c.signed.ensures.digits ∙ c.past_zeros.ensures)
    (c.is_negative.ensures ∙ sym (minus-run c.args.bytes.now)) c.signed.ensures.sign c.in-Some.ensures.0

pub returns-in-Some-clause-numeral : goal.returns-in-Some-clause-numeral
returns-in-Some-clause-numeral c =
    all_digits c.in-Some.digits.now c.signed.result.digits.now _ _ (c.signed.ensures.digits ∙ c.past_zeros.ensures) c.signed.ensures.sign
    c.in-Some.ensures.0

pub returns-in-None-clause-value : goal.returns-in-None-clause-value
returns-in-None-clause-value c =
    sym (no_integer (from_run c.args.bytes.now)
    (ap are_digits (sym (unsigned-run c.args.bytes.now) ∙ ap from_run (sym c.without_sign.ensures)) ∙ c.in-None.ensures))

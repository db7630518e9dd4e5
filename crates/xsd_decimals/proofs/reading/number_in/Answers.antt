use Rattle.xsd_decimals.proofs.NumberRuns.{number_read, number_written, number_none}
use Rattle.xsd_decimals.proofs.reading.number_in.Goals as goal

pub returns-in-Some-clause-value : goal.returns-in-Some-clause-value
returns-in-Some-clause-value c =
    number_read c.args.bytes.now _ c.in-Some.whole.now c.in-Some.fraction.now _ _ _ _ _ _ c.without_sign.ensures c.in-Some.ensures c.is_negative.ensures c.past_zeros.ensures c.significant.ensures
    c.signed.ensures.sign c.signed.ensures.whole c.signed.ensures.fraction

pub returns-in-Some-clause-number : goal.returns-in-Some-clause-number
returns-in-Some-clause-number c =
    number_written c.in-Some.whole.now c.in-Some.fraction.now _ _ _ _ _ _ c.in-Some.ensures.some c.past_zeros.ensures c.significant.ensures c.signed.ensures.sign c.signed.ensures.whole
    c.signed.ensures.fraction

pub returns-in-None-clause-value : goal.returns-in-None-clause-value
returns-in-None-clause-value c = number_none c.args.bytes.now _ c.without_sign.ensures c.in-None.ensures

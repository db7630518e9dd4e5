use Rattle.std.proofs.Common.{◌≡◌, false, rules, tests}
use Rattle.rng_model.specs.xsd.primitives.Decimals.{is_zero_digit}
use Rattle.xsd_decimals.proofs.Zeros.{zero_behind, other_behind}
use Rattle.xsd_decimals.proofs.digits.significant.Goals as goal

pub zeros-preserved : goal.zeros-preserved
zeros-preserved c =
    zero_behind c.args.digits.now c.zeros.rest.now c.in-Some.front.now c.in-Some.last.now c.in-Some.ensures.cases.0 c.if-last-ne48.false c.zeros.invariant

pub returns-then-last-ne48 : goal.returns-then-last-ne48
returns-then-last-ne48 c =
    let other : is_zero_digit c.in-Some.last.now ≡ false = search (rules, tests) in
    other_behind c.args.digits.now c.zeros.rest.now c.in-Some.front.now c.in-Some.last.now c.in-Some.ensures.cases.0 other c.zeros.invariant

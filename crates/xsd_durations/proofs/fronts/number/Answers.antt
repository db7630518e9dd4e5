use Rattle.std.proofs.Common.{arith}
use Rattle.xsd_durations.proofs.Numerals.{next_is}
use Rattle.xsd_durations.proofs.fronts.number.Goals as goal

pub overflow_mul-number : goal.overflow_mul-number
overflow_mul-number c =
    let next = next_is c.args.digits.now _ _ c.requires.all c.requires.few c.digits-test.true c.digits.invariant in omega (arith, next.small)

pub overflow_add-number : goal.overflow_add-number
overflow_add-number c =
    let next = next_is c.args.digits.now _ _ c.requires.all c.requires.few c.digits-test.true c.digits.invariant in omega (arith, next.small)

pub digits-preserved : goal.digits-preserved
digits-preserved c = (next_is c.args.digits.now _ _ c.requires.all c.requires.few c.digits-test.true c.digits.invariant).value

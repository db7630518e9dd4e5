use Rattle.std.proofs.Common.{arith}
use Rattle.xsd_moments.proofs.Digits.{fits_so_far, whole}
use Rattle.xsd_moments.proofs.fronts.number.Goals as goal

pub overflow_mul-value : goal.overflow_mul-value
overflow_mul-value c =
    let i = c.digits.invariant in
    omega (arith, fits_so_far c.digits.value c.digits.rest.now c.args.digits.now c.in-len1-up.len_at_least i.value i.all c.requires.all c.requires.few)

pub overflow_add-value : goal.overflow_add-value
overflow_add-value c =
    let i = c.digits.invariant in
    omega (arith, c.from.ensures, fits_so_far c.digits.value c.digits.rest.now c.args.digits.now c.in-len1-up.len_at_least i.value i.all c.requires.all c.requires.few)

pub returns-clause-bound : goal.returns-clause-bound
returns-clause-bound c =
    whole c.digits.value c.digits.rest.now c.args.digits.now c.in_default.len_below c.digits.invariant.value c.requires.all

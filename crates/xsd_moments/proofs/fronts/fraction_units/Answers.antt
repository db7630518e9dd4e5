use Rattle.std.proofs.Common.{◌<◌, ◌*◌, ◌-◌, ◌^◌, length, arith, ap, ◌∙◌, sym, subst}
use Rattle.xsd_moments.proofs.Digits.{fraction-value, fraction_below}
use Rattle.xsd_moments.proofs.fronts.fraction_units.Goals as goal

pub overflow_mul-result : goal.overflow_mul-result
overflow_mul-result c =
    let digits = c.args.digits.now in
    let below : c.number.result * c.pow.result < 10 ^ 18 =
    subst (λ p. c.number.result * p < 10 ^ 18) (sym c.pow.ensures) (fraction_below c.number.result digits c.number.ensures.bound c.requires.few) in
    omega (arith, below)

pub returns-clause-value : goal.returns-clause-value
returns-clause-value c =
    ap (λ p. c.number.result * p) c.pow.ensures
    ∙ (ap (λ n. n * 10 ^ (18 - length c.args.digits.now)) c.number.ensures.value ∙ sym (fraction-value c.args.digits.now))

pub returns-clause-bound : goal.returns-clause-bound
returns-clause-bound c =
    subst (λ p. c.number.result * p < 10 ^ 18) (sym c.pow.ensures) (fraction_below c.number.result c.args.digits.now c.number.ensures.bound c.requires.few)

use Rattle.std.proofs.Common.{◌≡◌, ◌*◌, ap₂, ◌∙◌, arith}
use Rattle.rng_model.specs.xsd.primitives.Fronts.{fraction_value}
use Rattle.xsd_durations.proofs.Fractions.{fraction_is, fraction_small}
use Rattle.xsd_durations.proofs.fronts.fraction_value.Goals as goal

pub overflow_mul-result : goal.overflow_mul-result
overflow_mul-result c =
    let is : c.number.result * c.pow.result ≡ fraction_value c.args.digits.now =
    ap₂ (λ m n. m * n) c.number.ensures c.pow.ensures ∙ fraction_is c.args.digits.now in
    omega (arith, is, fraction_small c.args.digits.now c.requires.all c.requires.few)

pub returns : goal.returns
returns c = ap₂ (λ m n. m * n) c.number.ensures c.pow.ensures ∙ fraction_is c.args.digits.now

use Rattle.std.proofs.Common.{◌^◌, nat_lt, ap, ◌∙◌, sym}
use Rattle.rng_model.specs.datatypes.Facets.{passes}
use Rattle.rng_model.specs.xsd.Integers.{has_digits}
use Rattle.xsd_types.specs.plain.Digits.{value_of}
use Rattle.xsd_types.proofs.Digits.{few_digits}
use Rattle.xsd_types.proofs.Signs.{size-signed}
use Rattle.xsd_types.proofs.numerals.has_digits.Goals as goal

pub returns-in-Some : goal.returns-in-Some
returns-in-Some c =
    let n = c.args.n.now in
    few_digits n.digits.now c.in-Some.total c.requires.digits ∙ ap (λ k. nat_lt k (10 ^ c.in-Some.total)) (sym (size-signed n.negative n.digits.now))
    ∙ ap (passes (has_digits (value_of n))) (sym c.in-Some.is)

use Rattle.std.proofs.Common.{ap, ◌∙◌, sym, true, false}
use Rattle.std.specs.Ordering.{int_cmp}
use Rattle.std.specs.Str.Parse.{digits_value}
use Rattle.xsd_types.specs.plain.Digits.{signed_value, value_of}
use Rattle.xsd_types.proofs.Digits.{positive}
use Rattle.xsd_types.proofs.Signs.{below_zero, above_zero}
use Rattle.xsd_types.proofs.numerals.compare.Goals as goal

pub returns-in-true-false : goal.returns-in-true-false
returns-in-true-false c =
    let a = c.args.a.now.digits.now in
    let b = c.args.b.now.digits.now in
    below_zero (digits_value 10 a) (digits_value 10 b) (positive a c.requires.left.digits (c.requires.left.sign c.in-true-false.is-0))
    ∙ ap (λ m. int_cmp (signed_value m a) (signed_value false b)) (sym c.in-true-false.is-0)
    ∙ ap (λ m. int_cmp (value_of c.args.a.now) (signed_value m b)) (sym c.in-true-false.is-1)

pub returns-in-false-true : goal.returns-in-false-true
returns-in-false-true c =
    let a = c.args.a.now.digits.now in
    let b = c.args.b.now.digits.now in
    above_zero (digits_value 10 b) (digits_value 10 a) (positive b c.requires.right.digits (c.requires.right.sign c.in-false-true.is-1))
    ∙ ap (λ m. int_cmp (signed_value m a) (signed_value true b)) (sym c.in-false-true.is-0)
    ∙ ap (λ m. int_cmp (value_of c.args.a.now) (signed_value m b)) (sym c.in-false-true.is-1)

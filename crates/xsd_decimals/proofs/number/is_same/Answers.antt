use Rattle.std.proofs.Common.{ap, ◌∙◌}
use Rattle.std.specs.Ordering.{is_eq}
use Rattle.xsd_decimals.specs.plain.Numbers.{value_of}
use Rattle.xsd_decimals.proofs.Signs.{canonical, same_is}
use Rattle.xsd_decimals.proofs.number.is_same.Goals as goal

pub returns : goal.returns
returns c =
    let a = c.args.a.now in
    let b = c.args.b.now in
    c.is_eq.ensures ∙ ap is_eq c.compare.ensures
    ∙ same_is (value_of a) (value_of b) (canonical a.negative a.whole.now a.fraction.now c.requires.left.fraction_digits)
    (canonical b.negative b.whole.now b.fraction.now c.requires.right.fraction_digits)

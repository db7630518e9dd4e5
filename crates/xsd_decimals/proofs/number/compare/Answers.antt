use Rattle.std.proofs.Common.{length, true, false, ◌∙◌, sym}
use Rattle.xsd_decimals.proofs.Signs.{signs_as, below_zero, above, positive}
use Rattle.xsd_decimals.proofs.number.compare.Goals as goal

pub returns-in-true-false : goal.returns-in-true-false
returns-in-true-false c =
    let a = c.args.a.now in
    let b = c.args.b.now in
    below_zero _ _ (positive a.negative a.whole.now a.fraction.now (length b.fraction.now) c.requires.left c.in-true-false.is-0)
    ∙ signs_as a b true false (sym c.in-true-false.is-0) (sym c.in-true-false.is-1)

pub returns-in-false-true : goal.returns-in-false-true
returns-in-false-true c =
    let a = c.args.a.now in
    let b = c.args.b.now in
    above _ _ (positive b.negative b.whole.now b.fraction.now (length a.fraction.now) c.requires.right c.in-false-true.is-1)
    ∙ signs_as a b false true (sym c.in-false-true.is-0) (sym c.in-false-true.is-1)

use Rattle.std.proofs.Common.{◌∷◌, [], ap, arith, length, subst, sym}
use Rattle.pyx.specs.views.ElementView.{AreKnown}
use Rattle.pyx.proofs.opened.place_of_name.Goals as goal

pub returns-in-Some-clause-inside : goal.returns-in-Some-clause-inside
returns-in-Some-clause-inside c =
    let there = c.in-Some.ensures (c.args.declarations.now ∷ [])
    (subst (AreKnown (c.args.declarations.now ∷ []) c.args.round) (sym c.as_slice.ensures.value) c.requires.known) in
    omega (arith, there.1.0, ap length c.as_slice.ensures.value)

use Rattle.std.proofs.Common.{[], All, subst, sym}
use Rattle.std.proofs.lemmas.List.Elements.{All-cons, All-nil}
use Rattle.rng_deriv_events.specs.views.Basis.{reading_by}
use Rattle.rng_deriv_events.specs.views.Numbers.{IsInside}
use Rattle.rng_deriv_events.proofs.KeptLevels.{adds_same}
use Rattle.rng_deriv_events.proofs.numbering.level_of_one.Goals as goal

pub returns-in-Some-clause-adds : goal.returns-in-Some-clause-adds
returns-in-Some-clause-adds g c =
    let d = c.args.derivatives.now in
    adds_same (reading_by (g.D.Derivatives.basis d)) (g.D.Derivatives.basis d).keys (g.D.Derivatives.trees d) c.args.table.now c.requires.kept

pub level_of-requires-clause-inside : goal.level_of-requires-clause-inside
level_of-requires-clause-inside g c =
    let trees = g.D.Derivatives.trees c.args.derivatives.now in
    subst (All (IsInside trees)) (sym c.in_ok-numbers.ensures.ok)
    (All-cons (IsInside trees) c.args.number [] c.requires.inside (All-nil (IsInside trees)))

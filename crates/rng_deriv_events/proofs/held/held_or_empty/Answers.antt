use Rattle.rng_deriv_events.specs.views.Basis.{reading_by}
use Rattle.rng_deriv_events.proofs.KeptLevels.{keeps_same}
use Rattle.rng_deriv_events.proofs.OpenStates.{held_same}
use Rattle.rng_deriv_events.proofs.held.held_or_empty.Goals as goal

pub returns-in-Some-clause-keeps : goal.returns-in-Some-clause-keeps
returns-in-Some-clause-keeps g c =
    let d = c.args.derivatives.now in
    keeps_same (g.D.Derivatives.basis d) (g.D.Derivatives.trees d) c.args.table.now c.requires.kept

pub returns-in-Some-clause-held : goal.returns-in-Some-clause-held
returns-in-Some-clause-held g c =
    let d = c.args.derivatives.now in
    let trees = g.D.Derivatives.trees d in
    held_same (reading_by (g.D.Derivatives.basis d)) (g.D.Derivatives.basis d).keys trees c.args.table.now c.args.now c.args.string c.in-Some.string
    c.in-Some.is
    c.requires.kept c.requires.string

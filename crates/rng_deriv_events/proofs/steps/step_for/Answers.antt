use Rattle.std.proofs.Common.{subst, sym}
use Rattle.rng_deriv_events.specs.views.LevelTable.{IsStepOf, steps_in}
use Rattle.rng_deriv_events.proofs.KeptLevels.{keeps_same}
use Rattle.rng_deriv_events.proofs.Numbers.{longer_same}
use Rattle.rng_deriv_events.proofs.steps.step_for.Goals as goal

pub returns-in-Some-clause-longer : goal.returns-in-Some-clause-longer
returns-in-Some-clause-longer g c = longer_same (g.D.Derivatives.trees c.args.derivatives.now)

pub returns-in-Some-clause-keeps : goal.returns-in-Some-clause-keeps
returns-in-Some-clause-keeps g c =
    let d = c.args.derivatives.now in
    keeps_same (g.D.Derivatives.basis d) (g.D.Derivatives.trees d) c.args.table.now c.requires.kept

pub returns-in-Some-find_step-clause-longer : goal.returns-in-Some-find_step-clause-longer
returns-in-Some-find_step-clause-longer g c = longer_same (g.D.Derivatives.trees c.args.derivatives.now)

pub returns-in-Some-find_step-clause-keeps : goal.returns-in-Some-find_step-clause-keeps
returns-in-Some-find_step-clause-keeps g c =
    let d = c.args.derivatives.now in
    keeps_same (g.D.Derivatives.basis d) (g.D.Derivatives.trees d) c.args.table.now c.requires.kept

pub returns-in-Some-find_step-clause-step : goal.returns-in-Some-find_step-clause-step
returns-in-Some-find_step-clause-step g c =
    subst (λ k. IsStepOf (steps_in c.args.table.now) c.args.from.0 k c.in-Some-find_step.step.0) (sym c.key-key.ensures.key) c.in-Some-find_step.ensures

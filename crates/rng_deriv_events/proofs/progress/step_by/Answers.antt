use Rattle.std.proofs.Common.{OnOk, subst, sym}
use Rattle.rng_model.specs.documents.PyxTrees as trees
use Rattle.rng_deriv_events.specs.views.Basis.{reading_by}
use Rattle.rng_deriv_events.specs.views.Inputs.{IsOf}
use Rattle.rng_deriv_events.specs.views.OpenPositions.{open_position}
use Rattle.rng_deriv_events.specs.views.Positions.{AddsStep}
use Rattle.rng_deriv_events.proofs.progress.step_by.Goals as goal

pub returns-in-AnyText-clause-step : goal.returns-in-AnyText-clause-step
returns-in-AnyText-clause-step g c =
    let old = c.args.derivatives.now in
    let new = c.after_any_text.new.derivatives in
    subst (λ i. OnOk c.after_any_text.result ((kind : trees.EventKind) → IsOf i kind → AddsStep (reading_by (g.D.Derivatives.basis old)) kind
    (g.D.Derivatives.trees old) (g.D.Derivatives.trees new) (open_position c.args.position.now) (open_position c.after_any_text.new.position)))
    (sym c.in-AnyText.is) c.after_any_text.ensures.step

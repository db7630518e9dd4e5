use Rattle.std.proofs.Common.{[], ◌∷◌, ◌++◌, subst, sym}
use Rattle.rng_deriv_events.specs.views.Basis.{reading_by}
use Rattle.rng_deriv_events.specs.views.Inputs.{event_at}
use Rattle.rng_deriv_events.specs.views.LevelsLeft.{left_of}
use Rattle.rng_deriv_events.specs.views.Positions.{AddsProgress, IsKnown, progress_at}
use Rattle.rng_deriv_events.proofs.KnownDocuments.{fails_on}
use Rattle.rng_deriv_events.proofs.progress.take_input.Goals as goal

pub returns-in-Failed-clause-progress : goal.returns-in-Failed-clause-progress
returns-in-Failed-clause-progress g c =
    let trees = g.D.Derivatives.trees c.args.derivatives.now in
    let reading = reading_by (g.D.Derivatives.basis c.args.derivatives.now) in
    λ kind of.
    let event = event_at c.args.line kind in
    subst (λ p. AddsProgress reading event (IsKnown reading trees p) trees p) (sym c.in-Failed.is)
    (λ es fails. fails_on reading trees (left_of c.in-Failed.left.value) c.in-Failed.left.value.may_end c.in-Failed.left.value.event es
    c.in-Failed.line event fails)

pub returns-in-Some-clause-progress : goal.returns-in-Some-clause-progress
returns-in-Some-clause-progress g c = λ kind of es known.
    let trees = g.D.Derivatives.trees in
    let reading = reading_by (g.D.Derivatives.basis c.args.derivatives.now) in
    let come = subst (λ p. IsKnown reading (trees c.args.derivatives.now) p es) c.in-Going.is known in
    subst (λ o. IsKnown reading (trees c.go_on.new.derivatives) (progress_at o c.go_on.new.position c.args.line) (es ++ event_at c.args.line kind ∷ []))
    c.in-Some.is
    (c.in_ok-left-in-Going.ensures.progress kind of es (c.in-Going.last, come))

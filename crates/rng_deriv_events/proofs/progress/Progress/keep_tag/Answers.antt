use Rattle.std.proofs.Common.{◌≡◌, ap, subst, sym}
use Rattle.rng_deriv_events.specs.views.Inputs.{tests_at}
use Rattle.rng_deriv_events.specs.views.OpenPositions.{IsPositionKept, open_position}
use Rattle.rng_deriv_events.specs.views.Positions.{HasCome, IsKnown, IsProgressInside}
use Rattle.rng_deriv_events.specs.declared.position.Position.{Position}
use Rattle.rng_deriv_events.proofs.progress.Progress.keep_tag.Goals as goal

pub returns-in-Going-clause-inside : goal.returns-in-Going-clause-inside
returns-in-Going-clause-inside c = λ g keys trees inside.
    let kept = subst (IsProgressInside g keys trees) c.in-Going.is inside in
    subst (IsPositionKept g keys trees) (sym c.keep_tag_at.ensures) (record { state = kept.state; held = kept.held })

pub returns-in-Going-clause-known : goal.returns-in-Going-clause-known
returns-in-Going-clause-known c = λ g trees es known.
    subst (λ (p : Position). HasCome g trees (open_position p) c.in-Going.line es) (sym c.keep_tag_at.ensures)
    (subst (λ p. IsKnown g trees p es) c.in-Going.is known)

pub returns-in-Going-clause-mode : goal.returns-in-Going-clause-mode
returns-in-Going-clause-mode c = λ none. ap (λ (p : Position). p.keeps_tag) c.keep_tag_at.ensures

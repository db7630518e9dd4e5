use Rattle.std.proofs.Common.{◌≡◌, ◌↔◌, true, subst, sym}
use Rattle.rng_deriv_laws.specs.plain.LevelEvents.{LevelMatcher}
use Rattle.rng_deriv_events.specs.views.Basis.{reading_by}
use Rattle.rng_deriv_events.specs.views.Marks.{IsMarkOf}
use Rattle.rng_deriv_events.specs.views.NextEnds.{EndMayCome}
use Rattle.rng_deriv_events.specs.declared.left.Left.{Left}
use Rattle.rng_deriv_events.proofs.left.Mark.left.Goals as goal

pub returns-clause-ends : goal.returns-clause-ends
returns-clause-ends g c =
    let reading = reading_by (g.D.Derivatives.basis c.args.derivatives.now) in
    subst (λ (l : Left). (m : LevelMatcher) → IsMarkOf reading (g.D.Derivatives.trees c.args.derivatives.now) c.args.table.now c.args.self m
    → (l.may_end ≡ true) ↔ EndMayCome reading m) (sym c.in_ok-boxed.ensures.ok) c.in_ok-may_end.ensures.ends

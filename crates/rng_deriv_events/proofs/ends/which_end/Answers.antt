use Rattle.rng_deriv_events.specs.views.Basis.{reading_by}
use Rattle.rng_deriv_events.proofs.EndedElements.{nullable_at}
use Rattle.rng_deriv_events.proofs.ends.which_end.Goals as goal

pub alternatives-preserved : goal.alternatives-preserved
alternatives-preserved g c =
    nullable_at (reading_by (g.D.Derivatives.basis c.args.derivatives.now)) (g.D.Derivatives.trees c.args.derivatives.now) c.args.now.now
    c.alternatives.pattern-index _
    c.alternatives.good.items c.push.new.self.items c.is_nullable.result c.alternatives.invariant c.alternatives-test.true c.is_nullable.ensures
    c.in_ok-push.ensures.ok

use Rattle.std.proofs.Common.{◌<◌, subst}
use Rattle.std.proofs.lemmas.Option.{slice_get-get_or}
use Rattle.rng_deriv_events.specs.views.Basis.{reading_by}
use Rattle.rng_deriv_events.proofs.EndedElements.{ends_with_at}
use Rattle.rng_deriv_events.proofs.ends.which_end_with.Goals as goal

pub alternatives-preserved : goal.alternatives-preserved
alternatives-preserved g c =
    ends_with_at (reading_by (g.D.Derivatives.basis c.args.derivatives.now)) (g.D.Derivatives.trees c.args.derivatives.now) c.args.now.now c.args.after.now
    c.args.blank
    c.alternatives.place _ _ c.alternatives.good.items c.push.new.self.items c.may_end.result c.alternatives.invariant c.alternatives-test.true
    (slice_get-get_or c.args.after.now c.alternatives.place (record { 0 = 0 })
    (subst (λ k. c.alternatives.place < k) c.requires.count c.alternatives-test.true))
    c.may_end.ensures c.in_ok-push.ensures.ok

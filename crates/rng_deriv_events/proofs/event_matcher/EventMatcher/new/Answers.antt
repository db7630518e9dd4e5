use Rattle.rng_deriv_events.specs.views.Basis.{reading_by}
use Rattle.rng_deriv_events.proofs.KeptLevels.{kept_nothing}
use Rattle.rng_deriv_events.proofs.event_matcher.EventMatcher.new.Goals as goal

pub with_table-requires : goal.with_table-requires
with_table-requires g c =
    let d = c.args.derivatives in
    let told = c.new-nothing.ensures in
    kept_nothing (reading_by (g.D.Derivatives.basis d)) (g.D.Derivatives.basis d).keys (g.D.Derivatives.trees d) c.new-nothing.result told.levels told.steps
    told.closed
    told.sampled told.ends

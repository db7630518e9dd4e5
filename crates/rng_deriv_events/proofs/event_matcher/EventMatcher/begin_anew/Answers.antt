use Rattle.rng_deriv_events.specs.views.Basis.{reading_by}
use Rattle.rng_deriv_events.proofs.event_matcher.EventMatcher.begin_anew.Goals as goal

pub with_table-requires : goal.with_table-requires
with_table-requires g c =
    let d = c.self.inside.derivatives in
    c.table_of-table.ensures (reading_by (g.D.Derivatives.basis d)) (g.D.Derivatives.basis d).keys (g.D.Derivatives.trees d) c.self.invariant

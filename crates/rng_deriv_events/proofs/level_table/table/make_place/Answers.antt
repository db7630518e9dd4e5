use Rattle.rng_deriv_events.proofs.Lookups.{ends_none}
use Rattle.rng_deriv_events.proofs.level_table.table.make_place.Goals as goal

pub places-preserved : goal.places-preserved
places-preserved c = λ n e h. c.places.invariant n e
    (ends_none c.places.ends.items c.push.new.self.items c.new.result n e c.new.ensures.items c.in_ok-push.ensures.items h)

use Rattle.std.proofs.Common.{take}
use Rattle.rng_deriv_events.specs.views.Levels.{AddsLinks}
use Rattle.rng_deriv_events.proofs.links.add_links.Given as goal

abbrev pub invariant-ways : goal.invariant-ways
invariant-ways l = AddsLinks l.outer (take l.way-index l.ways) l.fn.bodies.items l.bodies.items l.fn.links.items l.links.items

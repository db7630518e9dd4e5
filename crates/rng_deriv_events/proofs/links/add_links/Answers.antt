use Rattle.rng_deriv_events.proofs.AddedLinks.{links_at, no_links}
use Rattle.rng_deriv_events.proofs.links.add_links.Goals as goal

pub ways-init : goal.ways-init
ways-init c = no_links c.args.outer c.args.bodies.now.items c.args.links.now.items

pub ways-preserved : goal.ways-preserved
ways-preserved c =
    links_at c.args.outer c.args.ways.now c.ways.way-index _ c.args.bodies.now.items c.ways.bodies.items c.place_of.new.bodies.items c.args.links.now.items
    c.ways.links.items c.push.new.self.items c.in_ok-inner.inner c.ways.invariant c.ways-test.true c.in_ok-inner.ensures.found c.in_ok-inner.ensures.others
    c.in_ok-push.ensures.ok

use Rattle.rng_model.specs.names.NameViews.{name_of}
use Rattle.rng_deriv_ways.proofs.StartBodies.{no_body_more, one_body_more}
use Rattle.rng_deriv_ways.proofs.starting.add_starts.Goals as goal

pub ways-preserved-in_default : goal.ways-preserved-in_default
ways-preserved-in_default c =
    no_body_more c.args.context.now.grammar.now c.args.table.now c.args.context.now.numbers.now (name_of c.args.name.now) c.args.ways.now c.ways.starts.items c.ways.way-index _
    c.ways-test.true c.requires.ways c.ways.invariant c.in_default.ensures

pub ways-preserved : goal.ways-preserved
ways-preserved c =
    one_body_more c.args.context.now.grammar.now c.args.table.now c.args.context.now.numbers.now (name_of c.args.name.now) c.args.ways.now c.ways.starts.items c.ways.way-index _
    c.ways-test.true c.requires.ways c.ways.invariant c.in-Some.body c.push.new.self.items c.in-Some.ensures c.in_ok-push.ensures.ok

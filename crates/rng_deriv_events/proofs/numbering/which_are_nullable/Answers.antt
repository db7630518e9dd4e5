use Rattle.rng_deriv_events.proofs.LevelTests.{nullable_more}
use Rattle.rng_deriv_events.proofs.numbering.which_are_nullable.Goals as goal

pub alternatives-preserved : goal.alternatives-preserved
alternatives-preserved g c =
    nullable_more (g.D.Derivatives.trees c.args.derivatives.now) c.args.numbers.now c.alternatives.pattern-index _ c.alternatives.tests.items
    c.push.new.self.items c.is_nullable.result c.alternatives.invariant c.alternatives-test.true c.is_nullable.ensures c.in_ok-push.ensures.ok

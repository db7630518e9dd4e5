use Rattle.std.proofs.Common.{◌∙◌, ap}
use Rattle.rng_rules.specs.plain.Broken.{either_broken, start_broken}
use Rattle.rng_rules.specs.plain.Facts.{facts_of}
use Rattle.rng_rules.proofs.GrammarBodies.{parts_more}
use Rattle.rng_rules.proofs.FactsOver.{fact_at}
use Rattle.rng_rules.proofs.broken.broken_by_parts.Goals as goal

pub bodies-init : goal.bodies-init
bodies-init c = λ of has. c.broken_by_start-broken.ensures ∙ ap start_broken (fact_at of c.args.facts.now c.args.start _ has c.requires.start)

pub bodies-preserved : goal.bodies-preserved
bodies-preserved c = λ of has.
    parts_more of c.args.facts.now (facts_of (of c.args.start)) c.args.bodies.now c.bodies.body-index _ c.bodies.broken _ has c.bodies-test.true
    (c.requires.bodies c.bodies.body-index _ c.bodies-test.true) (c.bodies.invariant of has)
    (c.broken_by_either-broken.ensures ∙ ap (either_broken c.bodies.broken) c.broken_by_body.ensures)

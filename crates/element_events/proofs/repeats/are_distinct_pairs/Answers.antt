use Rattle.rng_model.proofs.Truths.{not_both}
use Rattle.rng_model.specs.matching.Document.{none}
use Rattle.element_events.specs.views.Told.{attribute_told}
use Rattle.element_events.proofs.DistinctNames.{is_repeated, says_not, still_distinct}
use Rattle.element_events.proofs.repeats.are_distinct_pairs.Goals as goal

pub attributes-init : goal.attributes-init
attributes-init c = none

pub returns-then-not-is_unnamed : goal.returns-then-not-is_unnamed
returns-then-not-is_unnamed c = says_not (is_repeated attribute_told c.args.attributes.now c.attributes.i _ c.attributes-test.true
    (λ u. not_both (c.is_unnamed.ensures.1 u) c.if-not-is_unnamed.true))

pub attributes-preserved : goal.attributes-preserved
attributes-preserved c = still_distinct attribute_told c.args.attributes.now c.attributes.i _ c.attributes-test.true c.attributes.invariant
    (c.is_unnamed.ensures.0 c.if-not-is_unnamed.false)

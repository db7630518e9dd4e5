use Rattle.rng_model.proofs.Truths.{not_both}
use Rattle.rng_model.specs.matching.Document.{nothing_named}
use Rattle.element_events.specs.views.Told.{attribute_told, name_told}
use Rattle.element_events.proofs.DistinctNames.{is_named, says_not, still_unnamed}
use Rattle.element_events.proofs.repeats.is_unnamed.Goals as goal

pub attributes-init : goal.attributes-init
attributes-init c = nothing_named

pub returns-then-is_same : goal.returns-then-is_same
returns-then-is_same c = says_not (is_named attribute_told c.args.attributes.now c.attributes.attribute-index _ c.attributes-test.true (name_told c.args.name)
    (c.is_same.ensures.0 c.if-is_same.true))

pub attributes-preserved : goal.attributes-preserved
attributes-preserved c = still_unnamed attribute_told c.args.attributes.now c.attributes.attribute-index _ c.attributes-test.true (name_told c.args.name)
    c.attributes.invariant (λ p. not_both (c.is_same.ensures.1 p) c.if-is_same.false)

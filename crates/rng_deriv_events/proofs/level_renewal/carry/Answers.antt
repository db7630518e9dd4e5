use Rattle.std.proofs.Common.{◌∙◌, refl}
use Rattle.rng_deriv_events.specs.views.LevelTable.{steps_in}
use Rattle.rng_deriv_events.proofs.LevelRenewal.{carried_more}
use Rattle.rng_deriv_events.proofs.level_renewal.carry.Goals as goal

pub step-step-requires : goal.step-step-requires
step-step-requires c = c.requires c.steps.number-index _ c.steps-test.true

pub steps-preserved : goal.steps-preserved
steps-preserved c =
    let step = c.step-step.result.now in
    carried_more (steps_in c.args.table.now) c.args.steps.now c.steps.number-index _ step c.args.carried.now.items c.steps.carried.items c.push.new.self.items
    (record { around = step.around; links = c.in_ok-links.links }) c.steps.invariant c.steps-test.true c.step-step.ensures
    (c.in_ok-links.ensures.ok ∙ c.as_slice.ensures) c.in_ok-push.ensures.items refl

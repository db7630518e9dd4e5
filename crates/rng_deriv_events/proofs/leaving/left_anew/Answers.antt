use Rattle.std.proofs.Common.{◌≡◌, ◌∙◌, All, subst, sym}
use Rattle.std.proofs.lemmas.Option.{same_Some}
use Rattle.rng_model.proofs.Places.{all_at as all_there}
use Rattle.rng_deriv_events.specs.views.Basis.{reading_by}
use Rattle.rng_deriv_events.specs.views.LevelTable.{levels_in, steps_in}
use Rattle.rng_deriv_events.specs.declared.level_table.step.Step.{Step}
use Rattle.rng_deriv_events.specs.views.KeptLevels.{AddsEndedLevel, IsStepKept}
use Rattle.rng_deriv_events.specs.views.Levels.{AddsEnded, IsRestWithin}
use Rattle.rng_deriv_events.proofs.KeptLevels.{kept_on}
use Rattle.rng_deriv_events.proofs.leaving.left_anew.Goals as goal

pub ended-requires : goal.ended-requires
ended-requires g c =
    let d = c.args.derivatives.now in
    let trees = g.D.Derivatives.trees d in
    let table = c.args.table.now in
    let step = c.step-step.result.now in
    let law = all_there (IsStepKept (reading_by (g.D.Derivatives.basis d)) (g.D.Derivatives.basis d).keys trees (levels_in table)) (steps_in table)
    c.args.step.0 step
    c.requires.kept.steps c.step-step.ensures in
    subst (All (IsRestWithin trees step.around)) (sym c.as_slice.ensures) law.links

pub level_of-requires-clause-inside : goal.level_of-requires-clause-inside
level_of-requires-clause-inside g c = c.in_ok-numbers.ensures.ended.inside

pub level_of-requires-clause-kept : goal.level_of-requires-clause-kept
level_of-requires-clause-kept g c =
    let trees = g.D.Derivatives.trees in
    let basis = g.D.Derivatives.basis in
    let old = c.args.derivatives.now in
    let new = c.ended.new.derivatives in
    let told = c.in_ok-numbers.ensures in
    kept_on (basis old) (basis new) (trees old) (trees new) c.args.table.now told.basis told.ended.longer
    c.requires.kept

pub returns-clause-ended : goal.returns-clause-ended
returns-clause-ended g c = λ s at.
    let reading = reading_by (g.D.Derivatives.basis c.args.derivatives.now) in
    let old = g.D.Derivatives.trees c.args.derivatives.now in
    let new = g.D.Derivatives.trees c.ended.new.derivatives in
    let step = c.step-step.result.now in
    let level = c.in_ok-outside.ensures.level in
    let is : step ≡ s = same_Some step s (sym c.step-step.ensures ∙ at) in
    subst (λ (s : Step). AddsEndedLevel reading c.args.good.now old new s c.level_of.new.table c.in_ok-outside.outside) is (record {
      there = level.0;
      ended = subst (AddsEnded reading c.args.good.now step.around old new step.links.items) (sym level.1)
          (subst (λ ls. AddsEnded reading c.args.good.now step.around old new ls c.in_ok-numbers.numbers.items) c.as_slice.ensures
          c.in_ok-numbers.ensures.ended);
    })

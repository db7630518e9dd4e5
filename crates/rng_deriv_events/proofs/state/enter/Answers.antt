use Rattle.std.proofs.Common.{◌≡◌, ◌∙◌, map, refl, subst, sym, ap}
use Rattle.std.proofs.lemmas.Option.{same_Some, slice_get_within}
use Rattle.rng_model.specs.documents.EventViews.{attribute_of}
use Rattle.rng_model.specs.names.NameViews.{name_of}
use Rattle.rng_deriv_laws.specs.plain.LevelStates.{IsAfterTag}
use Rattle.rng_deriv_events.specs.views.Basis.{reading_by}
use Rattle.rng_deriv_events.specs.views.LevelTable.{levels_in, numbers_in, steps_in}
use Rattle.rng_deriv_events.specs.declared.level_table.step.Step.{Step}
use Rattle.rng_deriv_events.specs.views.KeptLevels.{AddsAfter}
use Rattle.rng_deriv_events.specs.declared.state.State.{State}
use Rattle.rng_deriv_events.proofs.KeptLevels.{grows_through}
use Rattle.rng_deriv_events.proofs.OpenStates.{child_there, keeps_basis, kept_entered, same_basis, state_entered}
use Rattle.rng_deriv_events.proofs.state.enter.Goals as goal

pub step-requires : goal.step-requires
step-requires g c =
    let found = c.in_ok-step.ensures.step in
    slice_get_within (steps_in c.step_for.new.table) c.in_ok-step.step.0 found.0 found.1

pub level_in_tag-requires-clause-kept : goal.level_in_tag-requires-clause-kept
level_in_tag-requires-clause-kept g c = c.in_ok-step.ensures.keeps.right.kept

pub level_in_tag-requires-clause-level : goal.level_in_tag-requires-clause-level
level_in_tag-requires-clause-level g c =
    let d = c.step_for.new.derivatives in
    child_there (reading_by (g.D.Derivatives.basis d)) (g.D.Derivatives.basis d).keys (g.D.Derivatives.trees d) c.step_for.new.table c.in_ok-step.step.0
    c.step.result.now c.in_ok-step.ensures.keeps.right.kept c.step.ensures

pub returns-clause-keeps : goal.returns-clause-keeps
returns-clause-keeps g c =
    let trees = g.D.Derivatives.trees in
    let basis = g.D.Derivatives.basis in
    let a = c.args.derivatives.now in
    let b = c.step_for.new.derivatives in
    let d = c.level_in_tag.new.derivatives in
    let s = c.args.state.now in
    let told = c.in_ok-step.ensures in
    let more = c.in_ok-state.ensures in
    let n : State = record { table = c.level_in_tag.new.table; now = c.in_ok-state.field-0; carried = s.carried; steps = c.push.new.self } in
    let found = told.step in
    let is : c.step.result.now ≡ found.0 = same_Some c.step.result.now found.0 (sym c.step.ensures ∙ found.1) in
    let xs = map attribute_of c.args.attrs.now in
    let after = subst (λ (st : Step). AddsAfter (IsAfterTag (reading_by (basis a)) xs) (trees b) (trees d)
    (numbers_in (levels_in c.step_for.new.table) st.child.0)
    n.table n.now) is (subst (λ r. AddsAfter (IsAfterTag r xs) (trees b) (trees d)
    (numbers_in (levels_in c.step_for.new.table) c.step.result.now.child.0) n.table n.now) (ap reading_by told.keeps.basis) more.after) in
    let same = more.keeps.basis ∙ told.keeps.basis in
    keeps_basis (basis a) (basis d) (trees d) n same
    (kept_entered (reading_by (basis a)) (basis a).keys (name_of c.args.name.now) xs (trees a) (trees b) (trees d) s n c.step_for.new.table c.in_ok-step.step
    c.requires told.longer (same_basis (basis a) (basis b) (trees b) s.table c.step_for.new.table told.keeps) found
    (same_basis (basis a) (basis d) (trees d) c.step_for.new.table n.table (record { basis = same; right = more.keeps.right })) after refl
    c.in_ok-push.ensures.items)

pub returns-clause-state : goal.returns-clause-state
returns-clause-state g c =
    let trees = g.D.Derivatives.trees in
    let basis = g.D.Derivatives.basis in
    let a = c.args.derivatives.now in
    let b = c.step_for.new.derivatives in
    let d = c.level_in_tag.new.derivatives in
    let s = c.args.state.now in
    let told = c.in_ok-step.ensures in
    let more = c.in_ok-state.ensures in
    let n : State = record { table = c.level_in_tag.new.table; now = c.in_ok-state.field-0; carried = s.carried; steps = c.push.new.self } in
    let found = told.step in
    let is : c.step.result.now ≡ found.0 = same_Some c.step.result.now found.0 (sym c.step.ensures ∙ found.1) in
    let xs = map attribute_of c.args.attrs.now in
    let after = subst (λ (st : Step). AddsAfter (IsAfterTag (reading_by (basis a)) xs) (trees b) (trees d)
    (numbers_in (levels_in c.step_for.new.table) st.child.0)
    n.table n.now) is (subst (λ r. AddsAfter (IsAfterTag r xs) (trees b) (trees d)
    (numbers_in (levels_in c.step_for.new.table) c.step.result.now.child.0) n.table n.now) (ap reading_by told.keeps.basis) more.after) in
    let same = more.keeps.basis ∙ told.keeps.basis in
    state_entered (reading_by (basis a)) (basis a).keys (name_of c.args.name.now) xs (trees a) (trees b) (trees d) s n c.step_for.new.table c.in_ok-step.step
    c.requires told.longer (same_basis (basis a) (basis b) (trees b) s.table c.step_for.new.table told.keeps) found
    (same_basis (basis a) (basis d) (trees d) c.step_for.new.table n.table (record { basis = same; right = more.keeps.right })) after refl
    c.in_ok-push.ensures.items

pub returns-clause-levels : goal.returns-clause-levels
returns-clause-levels g c =
    grows_through (levels_in c.args.state.now.table) (levels_in c.step_for.new.table) (levels_in c.level_in_tag.new.table)
    c.in_ok-step.ensures.keeps.right.levels c.in_ok-state.ensures.keeps.right.levels

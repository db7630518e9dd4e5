use Rattle.std.proofs.Common.{◌∙◌, ◌++◌, ◌<◌, All, OnOk, ap, length, map, refl, subst, sym}
use Rattle.rng_deriv_events.specs.views.Basis.{reading_by}
use Rattle.rng_deriv_events.specs.views.LevelTable.{steps_in}
use Rattle.rng_deriv_events.specs.declared.level_table.step.StepNumber.{StepNumber}
use Rattle.rng_deriv_events.specs.views.LevelRenewal.{IsStateRenewed}
use Rattle.rng_deriv_events.specs.views.OpenPositions.{level_at, open_level, open_state}
use Rattle.rng_deriv_events.specs.views.States.{OpenState}
use Rattle.rng_deriv_events.proofs.OpenStates.{kept_carried, state_carried}
use Rattle.rng_deriv_events.proofs.level_renewal.renew_state.Goals as goal

pub carry-requires : goal.carry-requires
carry-requires g c = subst (All (λ (n : StepNumber). n.0 < length (steps_in c.args.state.now.table))) (sym c.as_slice.ensures.value) c.requires.steps

pub renew_carried-requires-clause-kept : goal.renew_carried-requires-clause-kept
renew_carried-requires-clause-kept g c =
    let d = c.args.derivatives.now in
    let s = c.args.state.now in
    kept_carried s (record { table = s.table; now = s.now; carried = c.carry.new.carried; steps = c.clear.new.self }) refl refl
    (c.in_ok-carry.ensures ∙ ap (λ o. map open_level s.carried.items ++ map (level_at (steps_in s.table)) o) c.as_slice.ensures.value) c.clear.ensures.items
    (reading_by (g.D.Derivatives.basis d)) (g.D.Derivatives.basis d).keys (g.D.Derivatives.trees d) c.requires

pub returns-clause-renewed : goal.returns-clause-renewed
returns-clause-renewed g c =
    let trees = g.D.Derivatives.trees in
    let s = c.args.state.now in
    subst (λ (o : OpenState). OnOk c.renew_carried.result (IsStateRenewed (trees c.args.derivatives.now) (trees c.renew_carried.new.derivatives) o
    (open_state c.renew_carried.new.state)))
    (state_carried s (record { table = s.table; now = s.now; carried = c.carry.new.carried; steps = c.clear.new.self }) refl refl
    (c.in_ok-carry.ensures ∙ ap (λ o. map open_level s.carried.items ++ map (level_at (steps_in s.table)) o) c.as_slice.ensures.value) c.clear.ensures.items)
    c.renew_carried.ensures.renewed

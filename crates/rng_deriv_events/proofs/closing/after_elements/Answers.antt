use Rattle.std.proofs.Common.{◌≡◌, ◌∙◌, ◌+◌, OnOk, refl, subst, sym, vec_len}
use Rattle.rng_deriv_laws.specs.plain.LevelStates.{EndsNow}
use Rattle.rng_deriv_events.specs.views.Basis.{reading_by}
use Rattle.rng_deriv_events.specs.views.OpenPositions.{open_state}
use Rattle.rng_deriv_events.specs.views.States.{AddsState, EndsIf, OpenState, state_of}
use Rattle.rng_deriv_events.specs.declared.state.State.{State}
use Rattle.rng_deriv_events.proofs.KeptLevels.{adds_same}
use Rattle.rng_deriv_events.proofs.Numbers.{longer_same, none_left}
use Rattle.rng_deriv_events.proofs.OpenStates.{kept_at, keeps_basis, kept_left, popped_below, same_basis, state_grows, state_left}
use Rattle.rng_deriv_events.proofs.closing.after_elements.Goals as goal

pub after_carried_elements-requires-clause-kept : goal.after_carried_elements-requires-clause-kept
after_carried_elements-requires-clause-kept g c =
    let d = c.args.derivatives.now in
    let reading = reading_by (g.D.Derivatives.basis d) in
    let keys = (g.D.Derivatives.basis d).keys in
    let trees = g.D.Derivatives.trees d in
    let s = c.args.state.now in
    let n : State = record { table = s.table; now = s.now; carried = s.carried; steps = c.pop.new.self } in
    let none = none_left c.pop.result s.steps.items n.steps.items (vec_len s.steps) (vec_len n.steps) (λ _. vec_len n.steps + 1 ≡ vec_len s.steps)
    c.in_default.is c.pop.ensures.items c.pop.ensures.rest c.pop.ensures.cases in
    kept_at reading reading keys keys trees trees (longer_same trees) s n c.requires (adds_same reading keys trees s.table c.requires.kept) c.requires.now refl
    (none.1 ∙ sym none.0)

pub after_carried_elements-requires-clause-steps : goal.after_carried_elements-requires-clause-steps
after_carried_elements-requires-clause-steps g c =
    let s = c.args.state.now in
    (none_left c.pop.result s.steps.items c.pop.new.self.items (vec_len s.steps) (vec_len c.pop.new.self) (λ _. vec_len c.pop.new.self + 1 ≡ vec_len s.steps)
    c.in_default.is c.pop.ensures.items c.pop.ensures.rest c.pop.ensures.cases).1

pub returns-in_default-clause-ended : goal.returns-in_default-clause-ended
returns-in_default-clause-ended g c =
    let d = c.args.derivatives.now in
    let reading = reading_by (g.D.Derivatives.basis d) in
    let keys = (g.D.Derivatives.basis d).keys in
    let trees = g.D.Derivatives.trees d in
    let s = c.args.state.now in
    let n : State = record { table = s.table; now = s.now; carried = s.carried; steps = c.pop.new.self } in
    let none = none_left c.pop.result s.steps.items n.steps.items (vec_len s.steps) (vec_len n.steps) (λ _. vec_len n.steps + 1 ≡ vec_len s.steps)
    c.in_default.is c.pop.ensures.items c.pop.ensures.rest c.pop.ensures.cases in
    let same = state_grows reading reading keys keys trees trees (longer_same trees) s n c.requires (adds_same reading keys trees s.table c.requires.kept) refl
    refl (none.1 ∙ sym none.0) in
    subst (λ (o : OpenState). OnOk c.after_carried_elements.result (AddsState (EndsIf reading (EndsNow reading) (state_of trees o)) trees
    (g.D.Derivatives.trees c.after_carried_elements.new.derivatives) (open_state c.after_carried_elements.new.state))) same
    c.after_carried_elements.ensures.ended

pub left_after_elements-requires-clause-step : goal.left_after_elements-requires-clause-step
left_after_elements-requires-clause-step g c =
    let d = c.args.derivatives.now in
    popped_below (reading_by (g.D.Derivatives.basis d)) (g.D.Derivatives.basis d).keys (g.D.Derivatives.trees d) c.args.state.now c.pop.new.self.items
    c.in-Some.step
    c.requires c.in-Some.ensures.items

pub returns-clause-keeps : goal.returns-clause-keeps
returns-clause-keeps g c =
    let trees = g.D.Derivatives.trees in
    let basis = g.D.Derivatives.basis in
    let a = c.args.derivatives.now in
    let d = c.left_after_elements.new.derivatives in
    let s = c.args.state.now in
    let told = c.in_ok-state.ensures in
    let n : State = record { table = c.left_after_elements.new.table; now = c.in_ok-state.field-0; carried = s.carried; steps = c.pop.new.self } in
    keeps_basis (basis a) (basis d) (trees d) n told.keeps.basis
    (kept_left (reading_by (basis a)) (basis a).keys (EndsNow (reading_by (basis a))) (trees a) (trees d) s n c.in-Some.step c.requires
    (same_basis (basis a) (basis d) (trees d) s.table n.table told.keeps) refl c.in-Some.ensures.items told.outside)

pub returns-clause-ended : goal.returns-clause-ended
returns-clause-ended g c =
    let trees = g.D.Derivatives.trees in
    let basis = g.D.Derivatives.basis in
    let a = c.args.derivatives.now in
    let d = c.left_after_elements.new.derivatives in
    let s = c.args.state.now in
    let told = c.in_ok-state.ensures in
    let n : State = record { table = c.left_after_elements.new.table; now = c.in_ok-state.field-0; carried = s.carried; steps = c.pop.new.self } in
    state_left (reading_by (basis a)) (basis a).keys (EndsNow (reading_by (basis a))) (trees a) (trees d) s n c.in-Some.step c.requires
    (same_basis (basis a) (basis d) (trees d) s.table n.table told.keeps) refl c.in-Some.ensures.items
    told.outside

pub returns-clause-levels : goal.returns-clause-levels
returns-clause-levels g c = c.in_ok-state.ensures.keeps.right.levels

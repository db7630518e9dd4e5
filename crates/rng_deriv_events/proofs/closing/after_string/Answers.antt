use Rattle.std.proofs.Common.{◌≡◌, ◌∙◌, ◌+◌, ℕ, List, OnOk, Some, refl, subst, sym, vec_len}
use Rattle.rng_deriv_laws.specs.plain.LevelStates.{EndsWith}
use Rattle.rng_deriv_events.specs.views.Basis.{reading_by}
use Rattle.rng_deriv_events.specs.views.LevelTable.{levels_in, numbers_in}
use Rattle.rng_deriv_events.specs.views.OpenPositions.{held_string, open_state}
use Rattle.rng_deriv_events.specs.views.States.{AddsState, EndsIf, OpenState, state_of}
use Rattle.rng_deriv_events.specs.views.Strings.{IsHeld}
use Rattle.rng_deriv_events.specs.declared.state.State.{State}
use Rattle.rng_deriv_events.proofs.KeptLevels.{adds_same}
use Rattle.rng_deriv_events.proofs.Numbers.{longer_same, none_left}
use Rattle.rng_deriv_events.proofs.OpenStates.{kept_at, keeps_basis, kept_left_for, popped_below, same_basis, state_grows, state_left_for}
use Rattle.rng_deriv_events.proofs.closing.after_string.Goals as goal

pub after_carried_string-requires-clause-kept : goal.after_carried_string-requires-clause-kept
after_carried_string-requires-clause-kept g c =
    let d = c.args.derivatives.now in
    let reading = reading_by (g.D.Derivatives.basis d) in
    let keys = (g.D.Derivatives.basis d).keys in
    let trees = g.D.Derivatives.trees d in
    let s = c.args.state.now in
    let n : State = record { table = s.table; now = s.now; carried = s.carried; steps = c.pop.new.self } in
    let none = none_left c.pop.result s.steps.items n.steps.items (vec_len s.steps) (vec_len n.steps) (λ _. vec_len n.steps + 1 ≡ vec_len s.steps)
    c.in_default.is c.pop.ensures.items c.pop.ensures.rest c.pop.ensures.cases in
    kept_at reading reading keys keys trees trees (longer_same trees) s n c.requires.kept (adds_same reading keys trees s.table c.requires.kept.kept)
    c.requires.kept.now refl (none.1 ∙ sym none.0)

pub after_carried_string-requires-clause-steps : goal.after_carried_string-requires-clause-steps
after_carried_string-requires-clause-steps g c =
    let s = c.args.state.now in
    (none_left c.pop.result s.steps.items c.pop.new.self.items (vec_len s.steps) (vec_len c.pop.new.self) (λ _. vec_len c.pop.new.self + 1 ≡ vec_len s.steps)
    c.in_default.is c.pop.ensures.items c.pop.ensures.rest c.pop.ensures.cases).1

pub returns-in_default-clause-ended : goal.returns-in_default-clause-ended
returns-in_default-clause-ended g c =
    let d = c.args.derivatives.now in
    let reading = reading_by (g.D.Derivatives.basis d) in
    let keys = (g.D.Derivatives.basis d).keys in
    let trees = g.D.Derivatives.trees d in
    let s = c.args.state.now in
    let n : State = record { table = s.table; now = s.now; carried = s.carried; steps = c.pop.new.self } in
    let none = none_left c.pop.result s.steps.items n.steps.items (vec_len s.steps) (vec_len n.steps) (λ _. vec_len n.steps + 1 ≡ vec_len s.steps)
    c.in_default.is c.pop.ensures.items c.pop.ensures.rest c.pop.ensures.cases in
    let same = state_grows reading reading keys keys trees trees (longer_same trees) s n c.requires.kept
    (adds_same reading keys trees s.table c.requires.kept.kept) refl refl (none.1 ∙ sym none.0) in
    subst (λ (o : OpenState). OnOk c.after_carried_string.result (AddsState (λ n. (t : List ℕ) → IsHeld reading trees
    (numbers_in (levels_in s.table) s.now.0) (Some (held_string s.table c.args.string)) t → EndsIf reading (EndsWith reading t) (state_of trees o) n) trees
    (g.D.Derivatives.trees c.after_carried_string.new.derivatives) (open_state c.after_carried_string.new.state))) same
    c.after_carried_string.ensures.ended

pub left_after_string-requires-clause-step : goal.left_after_string-requires-clause-step
left_after_string-requires-clause-step g c =
    let d = c.args.derivatives.now in
    popped_below (reading_by (g.D.Derivatives.basis d)) (g.D.Derivatives.basis d).keys (g.D.Derivatives.trees d) c.args.state.now c.pop.new.self.items
    c.in-Some.step
    c.requires.kept c.in-Some.ensures.items

pub returns-clause-keeps : goal.returns-clause-keeps
returns-clause-keeps g c =
    let trees = g.D.Derivatives.trees in
    let basis = g.D.Derivatives.basis in
    let a = c.args.derivatives.now in
    let d = c.left_after_string.new.derivatives in
    let s = c.args.state.now in
    let told = c.in_ok-state.ensures in
    let n : State = record { table = c.left_after_string.new.table; now = c.in_ok-state.field-0; carried = s.carried; steps = c.pop.new.self } in
    keeps_basis (basis a) (basis d) (trees d) n told.keeps.basis
    (kept_left_for (reading_by (basis a)) (basis a).keys (trees a) (trees d) s n c.in-Some.step c.requires.kept
    (same_basis (basis a) (basis d) (trees d) s.table n.table told.keeps) refl c.in-Some.ensures.items
    told.longer told.there)

pub returns-clause-ended : goal.returns-clause-ended
returns-clause-ended g c =
    let trees = g.D.Derivatives.trees in
    let basis = g.D.Derivatives.basis in
    let a = c.args.derivatives.now in
    let d = c.left_after_string.new.derivatives in
    let s = c.args.state.now in
    let told = c.in_ok-state.ensures in
    let n : State = record { table = c.left_after_string.new.table; now = c.in_ok-state.field-0; carried = s.carried; steps = c.pop.new.self } in
    state_left_for (reading_by (basis a)) (basis a).keys (trees a) (trees d) s n c.in-Some.step c.requires.kept
    (same_basis (basis a) (basis d) (trees d) s.table n.table told.keeps) refl c.in-Some.ensures.items
    told.longer told.there (EndsWith (reading_by (basis a))) (IsHeld (reading_by (basis a)) (trees a) (numbers_in (levels_in s.table) s.now.0)
    (Some (held_string s.table c.args.string))) (λ st t at held. told.outside st t at held)

pub returns-clause-levels : goal.returns-clause-levels
returns-clause-levels g c = c.in_ok-state.ensures.keeps.right.levels

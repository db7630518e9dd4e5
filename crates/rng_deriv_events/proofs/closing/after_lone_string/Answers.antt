use Rattle.std.proofs.Common.{ℕ, List, OnOk, Some, refl, subst, ap}
use Rattle.std.proofs.lemmas.Result.{on_ok_weaker}
use Rattle.rng_deriv_events.specs.views.Basis.{reading_by}
use Rattle.rng_deriv_events.specs.views.LevelTable.{levels_in}
use Rattle.rng_deriv_laws.specs.plain.LevelStates.{EndsWith}
use Rattle.rng_deriv_events.specs.views.OpenPositions.{held_string, open_state, open_string}
use Rattle.rng_deriv_events.specs.views.States.{AddsState, EndsIf, OpenState, state_of}
use Rattle.rng_deriv_events.specs.views.Strings.{IsHeld}
use Rattle.rng_deriv_events.specs.declared.state.State.{State}
use Rattle.rng_deriv_events.specs.views.KeptLevels.{Grows}
use Rattle.rng_deriv_events.proofs.KeptLevels.{below_grows, grows_through}
use Rattle.rng_deriv_events.proofs.OpenStates.{ends_held_ok, kept_at, state_grows, state_inside}
use Rattle.rng_deriv_events.proofs.closing.after_lone_string.Goals as goal

pub after_string-requires-clause-kept : goal.after_string-requires-clause-kept
after_string-requires-clause-kept g c =
    let trees = g.D.Derivatives.trees in
    let basis = g.D.Derivatives.basis in
    let a = c.args.derivatives.now in
    let d = c.held_or_empty.new.derivatives in
    let s = c.args.state.now in
    let told = c.in_ok-held.ensures in
    let n : State = record { table = c.held_or_empty.new.table; now = s.now; carried = s.carried; steps = s.steps } in
    kept_at (reading_by (basis a)) (reading_by (basis d)) (basis a).keys (basis d).keys (trees a) (trees d) told.held.longer s n c.requires.state
    told.keeps.right
    (below_grows (levels_in s.table) (levels_in n.table) s.now.0 told.keeps.right.levels c.requires.state.now) refl refl

pub returns-clause-ended : goal.returns-clause-ended
returns-clause-ended g c =
    let trees = g.D.Derivatives.trees in
    let basis = g.D.Derivatives.basis in
    let a = c.args.derivatives.now in
    let b = c.held_or_empty.new.derivatives in
    let d = c.after_string.new.derivatives in
    let s = c.args.state.now in
    let told = c.in_ok-held.ensures in
    let m : State = record { table = c.held_or_empty.new.table; now = s.now; carried = s.carried; steps = s.steps } in
    let held = held_string m.table c.in_ok-held.held in
    let grows = state_grows (reading_by (basis a)) (reading_by (basis b)) (basis a).keys (basis b).keys (trees a) (trees b) told.held.longer s m
    c.requires.state told.keeps.right
    refl refl refl in
    let n = open_state c.after_string.new.state in
    ends_held_ok (reading_by (basis a)) (reading_by (basis b)) (trees a) (trees b) (trees d) (open_state s) n (open_string s.table c.args.string) held
    c.after_string.result
    (ap reading_by told.keeps.basis) (state_inside (reading_by (basis a)) (basis a).keys (trees a) s c.requires.state) told.held
    (subst (λ (o : OpenState). OnOk c.after_string.result (AddsState (λ n. (t : List ℕ) → IsHeld (reading_by (basis b)) (trees b) o.now (Some held) t
    → EndsIf (reading_by (basis b)) (EndsWith (reading_by (basis b)) t) (state_of (trees b) o) n) (trees b) (trees d) n)) grows c.after_string.ensures.ended)

pub returns-clause-levels : goal.returns-clause-levels
returns-clause-levels g c =
    let old = levels_in c.args.state.now.table in
    let mid = levels_in c.held_or_empty.new.table in
    let new = levels_in c.after_string.new.state.table in
    on_ok_weaker {P = Grows mid new} {Q = Grows old new} c.after_string.result
    (grows_through old mid new c.in_ok-held.ensures.keeps.right.levels) c.after_string.ensures.levels

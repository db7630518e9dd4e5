use Rattle.std.proofs.Common.{◌≡◌, refl, Some}
use Rattle.rng_deriv_events.specs.views.Basis.{reading_by}
use Rattle.rng_deriv_events.specs.views.LevelTable.{levels_in}
use Rattle.rng_deriv_events.specs.views.OpenPositions.{held_string, open_position}
use Rattle.rng_deriv_events.specs.declared.position.Position.{Position}
use Rattle.rng_deriv_events.specs.declared.state.State.{State}
use Rattle.rng_deriv_events.proofs.KeptLevels.{below_grows}
use Rattle.rng_deriv_events.proofs.OpenStates.{kept_at, position_inside, state_grows}
use Rattle.rng_deriv_events.proofs.Positions.{string_step}
use Rattle.rng_deriv_events.proofs.position.after_text.Goals as goal

pub hold-requires : goal.hold-requires
hold-requires g c = record { kept = c.requires.state.kept; now = c.requires.state.now }

pub returns-clause-keeps : goal.returns-clause-keeps
returns-clause-keeps g c =
    let trees = g.D.Derivatives.trees in
    let basis = g.D.Derivatives.basis in
    let a = c.args.derivatives.now in
    let d = c.hold.new.derivatives in
    let s = c.args.position.now.state in
    let told = c.in_ok-held.ensures in
    let n : State = record { table = c.hold.new.table; now = s.now; carried = s.carried; steps = s.steps } in
    record {
      basis = told.keeps.basis;
      right = record {
        state = kept_at (reading_by (basis a)) (reading_by (basis d)) (basis a).keys (basis d).keys (trees a) (trees d) told.held.longer s n c.requires.state
            told.keeps.right
            (below_grows (levels_in s.table) (levels_in n.table) s.now.0 told.keeps.right.levels c.requires.state.now) refl refl;
        held = told.inside;
      };
    }

pub returns-clause-step : goal.returns-clause-step
returns-clause-step g c =
    let trees = g.D.Derivatives.trees in
    let basis = g.D.Derivatives.basis in
    let a = c.args.derivatives.now in
    let d = c.hold.new.derivatives in
    let p = c.args.position.now in
    let s = p.state in
    let told = c.in_ok-held.ensures in
    let n : State = record { table = c.hold.new.table; now = s.now; carried = s.carried; steps = s.steps } in
    let r : Position = record { state = n; has_begun = p.has_begun; held = Some c.in_ok-held.held; keeps_tag = p.keeps_tag } in
    let same = state_grows (reading_by (basis a)) (reading_by (basis d)) (basis a).keys (basis d).keys (trees a) (trees d) told.held.longer s n c.requires.state
    told.keeps.right
    refl refl refl in
    string_step (reading_by (basis a)) (λ s. s ≡ c.args.text.now) c.args.text.now (trees a) (trees d) (open_position p)
    (held_string n.table c.in_ok-held.held) (open_position r) refl
    (position_inside (reading_by (basis a)) (basis a).keys (trees a) p c.requires) told.held same refl refl

pub returns-clause-levels : goal.returns-clause-levels
returns-clause-levels g c = c.in_ok-held.ensures.keeps.right.levels

use Rattle.std.proofs.Common.{refl, true, subst, sym, List, ℕ, ◌∙◌, OnOk}
use Rattle.std.proofs.lemmas.Result.{on_ok_weaker}
use Rattle.rng_model.specs.documents.PyxTrees.{an_end}
use Rattle.rng_deriv_laws.specs.plain.LevelStates.{EndsNow, EndsWith}
use Rattle.rng_deriv_events.specs.views.Basis.{Keeps, reading_by}
use Rattle.rng_deriv_events.specs.views.KeptLevels.{Grows}
use Rattle.rng_deriv_events.specs.views.LevelTable.{levels_in, numbers_in}
use Rattle.rng_deriv_events.specs.views.Positions.{AddsStep}
use Rattle.rng_deriv_events.specs.declared.position.Position.{Position}
use Rattle.rng_deriv_events.specs.views.OpenPositions.{IsHeldKept, IsPositionKept, IsStateKept, open_position, open_state, open_string}
use Rattle.rng_deriv_events.specs.views.States.{AddsState, EndsIf, state_of}
use Rattle.rng_deriv_events.specs.views.Strings.{IsHeld}
use Rattle.rng_deriv_events.proofs.OpenStates.{held_none, kept_no_string}
use Rattle.rng_deriv_events.proofs.Positions.{end_step, lone_step}
use Rattle.rng_deriv_events.proofs.position.after_end.Goals as goal

pub after_elements-requires : goal.after_elements-requires
after_elements-requires g c =
    let d = c.args.derivatives.now in
    c.settle.ensures.kept (reading_by (g.D.Derivatives.basis d)) (g.D.Derivatives.basis d).keys (g.D.Derivatives.trees d) c.requires

pub after_lone_string-requires : goal.after_lone_string-requires
after_lone_string-requires g c =
    let p = c.args.position.now in
    record { state = c.requires.state; string = subst (IsHeldKept p.state.table p.state.now) (sym c.take-string.ensures.value) c.requires.held }

pub returns-then-position-clause-keeps : goal.returns-then-position-clause-keeps
returns-then-position-clause-keeps g c =
    let old = g.D.Derivatives.basis c.args.derivatives.now in
    let new = g.D.Derivatives.basis c.after_elements.new.derivatives in
    let trees = g.D.Derivatives.trees c.after_elements.new.derivatives in
    let s = c.settle.new.position in
    let r : Position = record { state = c.after_elements.new.state; has_begun = s.has_begun; held = s.held; keeps_tag = s.keeps_tag } in
    on_ok_weaker {P = Keeps IsStateKept old new trees r.state} {Q = Keeps IsPositionKept old new trees r} c.after_elements.result
    (λ k. record { basis = k.basis; right = kept_no_string (reading_by new) new.keys trees r c.settle.ensures.held k.right }) c.after_elements.ensures.keeps

pub returns-then-position-clause-step : goal.returns-then-position-clause-step
returns-then-position-clause-step g c =
    let trees = g.D.Derivatives.trees in
    let reading = reading_by (g.D.Derivatives.basis c.args.derivatives.now) in
    let old = trees c.args.derivatives.now in
    let new = trees c.after_elements.new.derivatives in
    let p = c.args.position.now in
    let s = c.settle.new.position in
    let r : Position = record { state = c.after_elements.new.state; has_begun = s.has_begun; held = s.held; keeps_tag = s.keeps_tag } in
    on_ok_weaker {P = AddsState (EndsIf reading (EndsNow reading) (state_of old (open_state s.state))) old new (open_state r.state)}
    {Q = AddsStep reading an_end old new (open_position p) (open_position r)} c.after_elements.result
    (λ e. end_step reading old new (open_position p) (open_state s.state) (open_position r) (λ m of. c.settle.ensures.settles reading old m of) e
    c.if-position.true (c.settle.ensures.begun ∙ c.if-position.true) (held_none r.state.table r.held c.settle.ensures.held)) c.after_elements.ensures.ended

pub returns-clause-keeps : goal.returns-clause-keeps
returns-clause-keeps g c =
    let d = c.after_lone_string.new.derivatives in
    record {
      basis = c.in_ok-after_lone_string.ensures.keeps.basis;
      right = kept_no_string (reading_by (g.D.Derivatives.basis d)) (g.D.Derivatives.basis d).keys (g.D.Derivatives.trees d)
          (record { state = c.after_lone_string.new.state; has_begun = true; held = c.take-string.new.self; keeps_tag = c.args.position.now.keeps_tag }) c.take-string.ensures.after
          c.in_ok-after_lone_string.ensures.keeps.right;
    }

pub returns-clause-step : goal.returns-clause-step
returns-clause-step g c =
    let trees = g.D.Derivatives.trees in
    let reading = reading_by (g.D.Derivatives.basis c.args.derivatives.now) in
    let old = trees c.args.derivatives.now in
    let new = trees c.after_lone_string.new.derivatives in
    let p = c.args.position.now in
    let r : Position = record { state = c.after_lone_string.new.state; has_begun = true; held = c.take-string.new.self; keeps_tag = c.args.position.now.keeps_tag } in
    lone_step reading old new (open_position p) (open_position r)
    (subst (λ h. AddsState (λ n. (s : List ℕ) → IsHeld reading old (numbers_in (levels_in p.state.table) p.state.now.0) (open_string p.state.table h) s
    → EndsIf reading (EndsWith reading s) (state_of old (open_state p.state)) n)
    old new (open_state r.state)) c.take-string.ensures.value c.in_ok-after_lone_string.ensures.ended)
    c.if-position.false refl (held_none r.state.table r.held c.take-string.ensures.after)

pub returns-then-position-clause-levels : goal.returns-then-position-clause-levels
returns-then-position-clause-levels g c =
    subst (λ t. OnOk c.after_elements.result (Grows (levels_in t) (levels_in c.after_elements.new.state.table))) c.settle.ensures.table
    c.after_elements.ensures.levels

pub returns-clause-levels : goal.returns-clause-levels
returns-clause-levels g c = c.in_ok-after_lone_string.ensures.levels

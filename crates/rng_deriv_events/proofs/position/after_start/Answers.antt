use Rattle.std.proofs.Common.{refl, false, map, subst}
use Rattle.rng_model.specs.documents.EventViews.{attribute_of}
use Rattle.rng_model.specs.names.NameViews.{name_of}
use Rattle.rng_deriv_events.specs.views.Basis.{reading_by}
use Rattle.rng_deriv_events.specs.views.KeptLevels.{Grows}
use Rattle.rng_deriv_events.specs.views.LevelTable.{levels_in}
use Rattle.rng_deriv_events.specs.views.OpenPositions.{open_position, open_state}
use Rattle.rng_deriv_events.specs.declared.position.Position.{Position}
use Rattle.rng_deriv_events.proofs.OpenStates.{held_none, kept_no_string}
use Rattle.rng_deriv_events.proofs.Positions.{starts_step}
use Rattle.rng_deriv_events.proofs.position.after_start.Goals as goal

pub enter-requires : goal.enter-requires
enter-requires g c =
    let d = c.args.derivatives.now in
    c.settle.ensures.kept (reading_by (g.D.Derivatives.basis d)) (g.D.Derivatives.basis d).keys (g.D.Derivatives.trees d) c.requires

pub returns-clause-keeps : goal.returns-clause-keeps
returns-clause-keeps g c =
    let d = c.enter.new.derivatives in
    let settled = c.settle.new.position in
    record {
      basis = c.in_ok-enter.ensures.keeps.basis;
      right = kept_no_string (reading_by (g.D.Derivatives.basis d)) (g.D.Derivatives.basis d).keys (g.D.Derivatives.trees d)
          (record { state = c.enter.new.state; has_begun = false; held = settled.held; keeps_tag = settled.keeps_tag }) c.settle.ensures.held c.in_ok-enter.ensures.keeps.right;
    }

pub returns-clause-step : goal.returns-clause-step
returns-clause-step g c =
    let trees = g.D.Derivatives.trees in
    let reading = reading_by (g.D.Derivatives.basis c.args.derivatives.now) in
    let old = trees c.args.derivatives.now in
    let settled = c.settle.new.position in
    let r : Position = record { state = c.enter.new.state; has_begun = false; held = settled.held; keeps_tag = settled.keeps_tag } in
    starts_step reading (name_of c.args.name.now) (map attribute_of c.args.attrs.now) old (trees c.enter.new.derivatives) (open_position c.args.position.now)
    (open_state settled.state) (open_position r) (λ m of. c.settle.ensures.settles reading old m of)
    c.in_ok-enter.ensures.state refl (held_none r.state.table r.held c.settle.ensures.held)

pub returns-clause-levels : goal.returns-clause-levels
returns-clause-levels g c = subst (λ t. Grows (levels_in t) (levels_in c.enter.new.state.table)) c.settle.ensures.table c.in_ok-enter.ensures.levels

use Rattle.std.proofs.Common.{All, Contains, refl, rules, subst, sym}
use Rattle.std.proofs.lemmas.List.Elements.{All-contains, All-nil, Contains-push}
use Rattle.rng_deriv_events.specs.views.Basis.{reading_by}
use Rattle.rng_deriv_events.specs.views.Levels.{AddsEnded, IsRestWithin}
use Rattle.rng_deriv_events.specs.views.Numbers.{IsInside}
use Rattle.rng_deriv_events.specs.views.OpenPositions.{open_level}
use Rattle.rng_deriv_events.specs.views.States.{IsLevelInside}
use Rattle.rng_deriv_events.specs.declared.state.State.{State}
use Rattle.rng_deriv_events.specs.declared.state.WaysOut.{WaysOut}
use Rattle.rng_deriv_events.proofs.KeptLevels.{kept_on}
use Rattle.rng_deriv_events.proofs.Numbers.{longer_same}
use Rattle.rng_deriv_events.proofs.OpenStates.{kept_closed, kept_stray, state_closed, state_stray}
use Rattle.rng_deriv_events.proofs.closing.close_carried.Goals as goal

pub level_of-requires-clause-inside : goal.level_of-requires-clause-inside
level_of-requires-clause-inside g c =
    subst (All (IsInside (g.D.Derivatives.trees c.args.derivatives.now))) (sym c.new.ensures.items)
    (All-nil (IsInside (g.D.Derivatives.trees c.args.derivatives.now)))

pub returns-in_default-clause-keeps : goal.returns-in_default-clause-keeps
returns-in_default-clause-keeps g c =
    let d = c.args.derivatives.now in
    let trees = g.D.Derivatives.trees d in
    let basis = g.D.Derivatives.basis d in
    let s = c.args.state.now in
    let told = c.in_ok-state.ensures in
    record {
      basis = refl;
      right = kept_stray basis basis c.args.good.now trees trees s
          (record { table = c.level_of.new.table; now = c.in_ok-state.field-0; carried = c.pop.new.self; steps = s.steps }) c.requires.kept (longer_same trees)
          told.adds told.level.0 c.requires.steps refl (search rules) (search rules);
    }

pub returns-in_default-clause-state : goal.returns-in_default-clause-state
returns-in_default-clause-state g c =
    let d = c.args.derivatives.now in
    let trees = g.D.Derivatives.trees d in
    let basis = g.D.Derivatives.basis d in
    let s = c.args.state.now in
    let told = c.in_ok-state.ensures in
    state_stray basis basis c.args.good.now trees trees s
    (record { table = c.level_of.new.table; now = c.in_ok-state.field-0; carried = c.pop.new.self; steps = s.steps }) c.requires.kept (longer_same trees)
    told.adds told.level.0 c.requires.steps refl (search rules) (search rules)

pub ended-requires : goal.ended-requires
ended-requires g c =
    let trees = g.D.Derivatives.trees c.args.derivatives.now in
    let s = c.args.state.now in
    let Inside : WaysOut → Type 0 = λ w. IsLevelInside trees (open_level w) in
    subst (All (IsRestWithin trees c.in-Some.level.around)) (sym c.as_slice.ensures)
    (All-contains Inside s.carried.items c.in-Some.level c.requires.kept.carried
    (subst (λ ws. Contains ws c.in-Some.level) (sym c.in-Some.ensures.items) (Contains-push c.pop.new.self.items c.in-Some.level)))

pub level_of-requires-2-clause-inside : goal.level_of-requires-2-clause-inside
level_of-requires-2-clause-inside g c = c.in_ok-outside.ensures.ended.inside

pub level_of-requires-2-clause-kept : goal.level_of-requires-2-clause-kept
level_of-requires-2-clause-kept g c =
    let trees = g.D.Derivatives.trees in
    let basis = g.D.Derivatives.basis in
    let old = c.args.derivatives.now in
    let new = c.ended.new.derivatives in
    let told = c.in_ok-outside.ensures in
    kept_on (basis old) (basis new) (trees old) (trees new) c.args.state.now.table told.basis told.ended.longer
    c.requires.kept.kept

pub returns-clause-keeps : goal.returns-clause-keeps
returns-clause-keeps g c =
    let trees = g.D.Derivatives.trees in
    let basis = g.D.Derivatives.basis in
    let a = c.args.derivatives.now in
    let d = c.ended.new.derivatives in
    let s = c.args.state.now in
    let told = c.in_ok-outside.ensures in
    let level = c.in-Some.level in
    let more = c.in_ok-state-2.ensures in
    let n : State = record { table = c.level_of-2.new.table; now = c.in_ok-state-2.field-0; carried = c.pop.new.self; steps = s.steps } in
    let ended = subst (λ ls. AddsEnded (reading_by (basis a)) c.args.good.now level.around (trees a) (trees d) ls c.in_ok-outside.outside.items)
    c.as_slice.ensures
    told.ended in
    record {
      basis = told.basis;
      right = kept_closed (basis a) (basis d) c.args.good.now (trees a) (trees d) s n c.requires.kept told.ended.longer
          more.adds more.level.0 c.requires.steps refl level c.in-Some.ensures.items
          (subst (AddsEnded (reading_by (basis a)) c.args.good.now level.around (trees a) (trees d) level.links.items) (sym more.level.1) ended);
    }

pub returns-clause-state : goal.returns-clause-state
returns-clause-state g c =
    let trees = g.D.Derivatives.trees in
    let basis = g.D.Derivatives.basis in
    let a = c.args.derivatives.now in
    let d = c.ended.new.derivatives in
    let s = c.args.state.now in
    let told = c.in_ok-outside.ensures in
    let level = c.in-Some.level in
    let more = c.in_ok-state-2.ensures in
    let n : State = record { table = c.level_of-2.new.table; now = c.in_ok-state-2.field-0; carried = c.pop.new.self; steps = s.steps } in
    let ended = subst (λ ls. AddsEnded (reading_by (basis a)) c.args.good.now level.around (trees a) (trees d) ls c.in_ok-outside.outside.items)
    c.as_slice.ensures
    told.ended in
    state_closed (basis a) (basis d) c.args.good.now (trees a) (trees d) s n c.requires.kept told.ended.longer
    more.adds more.level.0 c.requires.steps refl level c.in-Some.ensures.items
    (subst (AddsEnded (reading_by (basis a)) c.args.good.now level.around (trees a) (trees d) level.links.items) (sym more.level.1) ended)

pub returns-in_default-clause-levels : goal.returns-in_default-clause-levels
returns-in_default-clause-levels g c = c.in_ok-state.ensures.adds.levels

pub returns-clause-levels : goal.returns-clause-levels
returns-clause-levels g c = c.in_ok-state-2.ensures.adds.levels

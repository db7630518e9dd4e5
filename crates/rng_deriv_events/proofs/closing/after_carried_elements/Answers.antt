use Rattle.std.proofs.Common.{◌≡◌, ◌↔◌, All, OnOk, map, subst, sym, true}
use Rattle.std.specs.List.{AllZip}
use Rattle.std.proofs.lemmas.Result.{on_ok_weaker}
use Rattle.rng_deriv_laws.specs.plain.LevelStates.{EndsNow}
use Rattle.rng_deriv_events.specs.views.Basis.{reading_by}
use Rattle.rng_deriv_events.specs.views.LevelTable.{levels_in}
use Rattle.rng_deriv_events.specs.views.Numbers.{IsInside, tree_of}
use Rattle.rng_deriv_events.specs.views.OpenPositions.{open_state}
use Rattle.rng_deriv_events.specs.views.States.{AddsState, EndsBy, EndsIf, state_of}
use Rattle.rng_deriv_events.proofs.KeptLevels.{numbers_inside}
use Rattle.rng_deriv_events.proofs.Positions.{ends_if}
use Rattle.rng_deriv_events.proofs.closing.after_carried_elements.Goals as goal

pub which_end-requires : goal.which_end-requires
which_end-requires g c =
    let trees = g.D.Derivatives.trees c.args.derivatives.now in
    let s = c.args.state.now in
    subst (All (IsInside trees)) (sym c.numbers.ensures) (numbers_inside trees (levels_in s.table) s.now.0 c.requires.kept.kept.levels c.requires.kept.now)

pub returns-clause-ended : goal.returns-clause-ended
returns-clause-ended g c =
    let d = c.args.derivatives.now in
    let reading = reading_by (g.D.Derivatives.basis d) in
    let old = g.D.Derivatives.trees d in
    let new = g.D.Derivatives.trees c.close_carried.new.derivatives in
    let s = c.args.state.now in
    let good = c.in_ok-good.good.items in
    let n = open_state c.close_carried.new.state in
    let which = subst (λ ps. AllZip (λ p b. (b ≡ true) ↔ EndsNow reading p) (map (tree_of old) ps) good) c.numbers.ensures c.in_ok-good.ensures in
    on_ok_weaker {P = AddsState (EndsBy reading good (state_of old (open_state s))) old new n}
    {Q = AddsState (EndsIf reading (EndsNow reading) (state_of old (open_state s))) old new n} c.close_carried.result
    (λ e. record {
      longer = e.longer;
      inside = e.inside;
      is = ends_if reading (EndsNow reading) good (state_of old (open_state s)) (state_of new n) which e.is;
    })
    (subst (λ bs. OnOk c.close_carried.result (AddsState (EndsBy reading bs (state_of old (open_state s))) old new n)) c.as_slice.ensures
    c.close_carried.ensures.state)

use Rattle.std.proofs.Common.{◌∙◌, ℕ, List, All, OnOk, Some, ap, length, subst, sym}
use Rattle.std.proofs.lemmas.Result.{on_ok_weaker}
use Rattle.rng_deriv_laws.specs.plain.LevelStates.{EndsWith}
use Rattle.rng_deriv_events.specs.views.Basis.{reading_by}
use Rattle.rng_deriv_events.specs.views.LevelTable.{levels_in, numbers_in}
use Rattle.rng_deriv_events.specs.views.Levels.{AreEndsWith}
use Rattle.rng_deriv_events.specs.views.Numbers.{IsInside}
use Rattle.rng_deriv_events.specs.views.OpenPositions.{held_string, open_state}
use Rattle.rng_deriv_events.specs.views.States.{AddsState, EndsBy, EndsIf, state_of}
use Rattle.rng_deriv_events.specs.views.Strings.{IsHeld}
use Rattle.rng_deriv_events.proofs.KeptLevels.{numbers_inside}
use Rattle.rng_deriv_events.proofs.Positions.{ends_if}
use Rattle.rng_deriv_events.proofs.closing.after_carried_string.Goals as goal

pub which_end_with-requires : goal.which_end_with-requires
which_end_with-requires g c =
    let trees = g.D.Derivatives.trees c.args.derivatives.now in
    let s = c.args.state.now in
    let table = s.table in
    let string = c.args.string.now in
    record {
      now = subst (All (IsInside trees)) (sym c.numbers.ensures)
          (numbers_inside trees (levels_in table) s.now.0 c.requires.kept.kept.levels c.requires.kept.now);
      after = subst (All (IsInside trees)) (sym c.numbers-2.ensures)
          (numbers_inside trees (levels_in table) string.after.0 c.requires.kept.kept.levels c.requires.string.0);
      count = ap length c.numbers.ensures ∙ c.requires.string.1 ∙ sym (ap length c.numbers-2.ensures);
    }

pub returns-clause-ended : goal.returns-clause-ended
returns-clause-ended g c =
    let d = c.args.derivatives.now in
    let reading = reading_by (g.D.Derivatives.basis d) in
    let old = g.D.Derivatives.trees d in
    let new = g.D.Derivatives.trees c.close_carried.new.derivatives in
    let s = c.args.state.now in
    let string = c.args.string.now in
    let good = c.in_ok-good.good.items in
    let n = open_state c.close_carried.new.state in
    let now = numbers_in (levels_in s.table) s.now.0 in
    let which : AreEndsWith reading old now (numbers_in (levels_in s.table) string.after.0) string.blank now good =
    subst (λ ps. AreEndsWith reading old now ps string.blank now good) c.numbers-2.ensures
    (subst (λ ps. AreEndsWith reading old ps c.numbers-2.result.now string.blank ps good) c.numbers.ensures c.in_ok-good.ensures) in
    on_ok_weaker {P = AddsState (EndsBy reading good (state_of old (open_state s))) old new n}
    {Q = AddsState (λ n. (t : List ℕ) → IsHeld reading old now (Some (held_string s.table string)) t
    → EndsIf reading (EndsWith reading t) (state_of old (open_state s)) n) old new n} c.close_carried.result
    (λ e. record {
      longer = e.longer;
      inside = e.inside;
      is = λ t held. ends_if reading (EndsWith reading t) good (state_of old (open_state s)) (state_of new n) (which t held.0 held.1) e.is;
    })
    (subst (λ bs. OnOk c.close_carried.result (AddsState (EndsBy reading bs (state_of old (open_state s))) old new n)) c.as_slice.ensures
    c.close_carried.ensures.state)

use Rattle.std.proofs.Common.{◌≡◌, ◌↔◌, All, map, subst, sym, true}
use Rattle.std.specs.List.{AllZip}
use Rattle.rng_deriv_laws.specs.plain.LevelStates.{EndsNow}
use Rattle.rng_deriv_events.specs.views.Basis.{reading_by}
use Rattle.rng_deriv_events.specs.views.LevelTable.{levels_in, numbers_in}
use Rattle.rng_deriv_events.specs.views.KeptLevels.{AddsEndedLevel, nullable_in}
use Rattle.rng_deriv_events.specs.views.Numbers.{IsInside, tree_of}
use Rattle.rng_deriv_events.proofs.KeptLevels.{keeps_same, found_end, good_is, numbers_inside}
use Rattle.rng_deriv_events.proofs.LevelTests.{which_null}
use Rattle.rng_deriv_events.proofs.leaving.left_after_elements.Goals as goal

pub returns-in-Some-clause-keeps : goal.returns-in-Some-clause-keeps
returns-in-Some-clause-keeps g c =
    let d = c.args.derivatives.now in
    keeps_same (g.D.Derivatives.basis d) (g.D.Derivatives.trees d) c.args.table.now c.requires.kept

pub returns-in-Some-clause-outside : goal.returns-in-Some-clause-outside
returns-in-Some-clause-outside g c = λ s at.
    let d = c.args.derivatives.now in
    let reading = reading_by (g.D.Derivatives.basis d) in
    let keys = (g.D.Derivatives.basis d).keys in
    let trees = g.D.Derivatives.trees d in
    let table = c.args.table.now in
    let ps = numbers_in (levels_in table) c.args.now.0 in
    let known = c.in-Some.ensures in
    let bits = good_is trees (levels_in table) c.args.now.0 c.level.result.now known.0 c.requires.kept.levels c.level.ensures known.1 in
    record {
      good = nullable_in trees ps;
      which = which_null reading trees ps;
      ended = found_end reading keys trees table c.args.step.0 (record { good = known.0; outside = c.in-Some.outside }) (nullable_in trees ps) s
          c.requires.kept known.2 at bits;
    }

pub which_end-requires : goal.which_end-requires
which_end-requires g c =
    let trees = g.D.Derivatives.trees c.args.derivatives.now in
    subst (All (IsInside trees)) (sym c.numbers.ensures)
    (numbers_inside trees (levels_in c.args.table.now) c.args.now.0 c.requires.kept.levels c.requires.now)

pub returns-clause-outside : goal.returns-clause-outside
returns-clause-outside g c = λ s at.
    let reading = reading_by (g.D.Derivatives.basis c.args.derivatives.now) in
    let old = g.D.Derivatives.trees c.args.derivatives.now in
    let good = c.in_ok-good.good.items in
    record {
      good = good;
      which = subst (λ ps. AllZip (λ p b. (b ≡ true) ↔ EndsNow reading p) (map (tree_of old) ps) good) c.numbers.ensures c.in_ok-good.ensures;
      ended = subst (λ bs. AddsEndedLevel reading bs old (g.D.Derivatives.trees c.left_by.new.derivatives) s c.left_by.new.table c.in_ok-outside.outside)
          c.as_slice.ensures (c.in_ok-outside.ensures.ended s at);
    }

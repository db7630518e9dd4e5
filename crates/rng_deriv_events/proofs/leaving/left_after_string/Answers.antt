use Rattle.std.proofs.Common.{◌≡◌, ◌∙◌, ℕ, List, All, ap, length, subst, sym}
use Rattle.std.specs.Option.{IfSome}
use Rattle.rng_model.specs.simple.Tree.{Simple}
use Rattle.rng_deriv_events.specs.views.Basis.{reading_by}
use Rattle.rng_deriv_events.specs.plain.Bits.{bits_of}
use Rattle.rng_deriv_events.specs.views.LevelTable.{levels_in, numbers_in, steps_in}
use Rattle.rng_deriv_events.specs.views.KeptLevels.{AddsEndedLevel, IsLevelKept, IsStepKept, ends_by, nullable_in}
use Rattle.rng_deriv_events.specs.views.Levels.{AreEndsWith}
use Rattle.rng_deriv_events.specs.views.Numbers.{IsInside}
use Rattle.rng_deriv_events.proofs.KeptLevels.{keeps_same, all_at, found_end, numbers_inside}
use Rattle.rng_deriv_events.proofs.Numbers.{longer_same}
use Rattle.rng_deriv_events.proofs.LevelTests.{which_by}
use Rattle.rng_deriv_events.proofs.leaving.left_after_string.Goals as goal

pub returns-in-Some-clause-keeps : goal.returns-in-Some-clause-keeps
returns-in-Some-clause-keeps g c =
    let d = c.args.derivatives.now in
    keeps_same (g.D.Derivatives.basis d) (g.D.Derivatives.trees d) c.args.table.now c.requires.kept

pub returns-in-Some-clause-outside : goal.returns-in-Some-clause-outside
returns-in-Some-clause-outside g c = λ s t at held.
    let d = c.args.derivatives.now in
    let reading = reading_by (g.D.Derivatives.basis d) in
    let trees = g.D.Derivatives.trees d in
    let table = c.args.table.now in
    let content = c.args.content.now in
    let now = numbers_in (levels_in table) content.level.0 in
    let after = numbers_in (levels_in table) content.string.after.0 in
    let known = c.in-Some.ensures in
    let tests = ends_by content.string.blank (nullable_in trees now) (nullable_in trees after) in
    let bits = subst (λ o. IfSome o (λ bits. (trees : List (Simple ℕ)) → All (IsLevelKept trees) (levels_in table)
    → bits_of (ends_by content.string.blank (nullable_in trees now) (nullable_in trees after)) ≡ bits)) known.1 c.bits_with-good.ensures in
    record {
      good = tests;
      which = which_by reading trees now after content.string.blank t held.0 held.1;
      ended = found_end reading (g.D.Derivatives.basis d).keys trees table c.args.step.0 (record { good = known.0; outside = c.in-Some.outside }) tests s
          c.requires.kept known.2 at (bits trees c.requires.kept.levels);
    }

pub which_end_with-requires : goal.which_end_with-requires
which_end_with-requires g c =
    let trees = g.D.Derivatives.trees c.args.derivatives.now in
    let table = c.args.table.now in
    let content = c.args.content.now in
    record {
      now = subst (All (IsInside trees)) (sym c.numbers.ensures)
          (numbers_inside trees (levels_in table) content.level.0 c.requires.kept.levels c.requires.now);
      after = subst (All (IsInside trees)) (sym c.numbers-2.ensures)
          (numbers_inside trees (levels_in table) content.string.after.0 c.requires.kept.levels c.requires.string.0);
      count = ap length c.numbers.ensures ∙ c.requires.string.1 ∙ sym (ap length c.numbers-2.ensures);
    }

pub returns-clause-outside : goal.returns-clause-outside
returns-clause-outside g c = λ s t at held.
    let reading = reading_by (g.D.Derivatives.basis c.args.derivatives.now) in
    let old = g.D.Derivatives.trees c.args.derivatives.now in
    let content = c.args.content.now in
    let good = c.in_ok-good.good.items in
    let now = numbers_in (levels_in c.args.table.now) content.level.0 in
    let ends : AreEndsWith reading old now (numbers_in (levels_in c.args.table.now) content.string.after.0) content.string.blank now good =
    subst (λ ps. AreEndsWith reading old now ps content.string.blank now good) c.numbers-2.ensures
    (subst (λ ps. AreEndsWith reading old ps c.numbers-2.result.now content.string.blank ps good) c.numbers.ensures c.in_ok-good.ensures) in
    record {
      good = good;
      which = ends t held.0 held.1;
      ended = subst (λ bs. AddsEndedLevel reading bs old (g.D.Derivatives.trees c.left_by.new.derivatives) s c.left_by.new.table c.in_ok-outside.outside)
          c.as_slice.ensures (c.in_ok-outside.ensures.ended s at);
    }

pub returns-in-Some-clause-longer : goal.returns-in-Some-clause-longer
returns-in-Some-clause-longer g c = longer_same (g.D.Derivatives.trees c.args.derivatives.now)

pub returns-in-Some-clause-there : goal.returns-in-Some-clause-there
returns-in-Some-clause-there g c =
    let known = c.in-Some.ensures in
    (c.requires.kept.ends c.args.step.0 (record { good = known.0; outside = c.in-Some.outside }) known.2).outside

pub returns-clause-longer : goal.returns-clause-longer
returns-clause-longer g c =
    let d = c.args.derivatives.now in
    let table = c.args.table.now in
    let s = all_at (IsStepKept (reading_by (g.D.Derivatives.basis d)) (g.D.Derivatives.basis d).keys (g.D.Derivatives.trees d) (levels_in table))
    (steps_in table)
    c.args.step.0 c.requires.kept.steps c.requires.step in
    (c.in_ok-outside.ensures.ended s.0 s.1).ended.longer

pub returns-clause-there : goal.returns-clause-there
returns-clause-there g c =
    let d = c.args.derivatives.now in
    let table = c.args.table.now in
    let s = all_at (IsStepKept (reading_by (g.D.Derivatives.basis d)) (g.D.Derivatives.basis d).keys (g.D.Derivatives.trees d) (levels_in table))
    (steps_in table)
    c.args.step.0 c.requires.kept.steps c.requires.step in
    (c.in_ok-outside.ensures.ended s.0 s.1).there

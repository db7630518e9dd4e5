use Rattle.std.proofs.Common.{◌≡◌, All, arith, length, map, subst, sym}
use Rattle.rng_model.specs.documents.EventViews.{attribute_of}
use Rattle.std.proofs.lemmas.Result.{IfOk-weaker as if_ok}
use Rattle.rng_deriv_laws.specs.plain.LevelStates.{IsAfterTag}
use Rattle.rng_deriv_events.specs.views.Basis.{reading_by}
use Rattle.rng_deriv_events.specs.views.LevelTable.{levels_in, numbers_in}
use Rattle.rng_deriv_events.specs.views.Numbers.{AddsEach, IsInside}
use Rattle.rng_deriv_events.proofs.KeptLevels.{kept_on, numbers_inside}
use Rattle.rng_deriv_events.proofs.Numbers.{only_one}
use Rattle.rng_deriv_events.proofs.numbering.level_after_tag.Goals as goal

pub entered-requires : goal.entered-requires
entered-requires g c =
    let trees = g.D.Derivatives.trees c.args.derivatives.now in
    subst (All (IsInside trees)) (sym c.numbers-2.ensures)
    (numbers_inside trees (levels_in c.args.table.now) c.args.level.0 c.requires.kept.levels c.requires.level)

pub level_of-requires-clause-inside : goal.level_of-requires-clause-inside
level_of-requires-clause-inside g c = c.in_ok-numbers.ensures.entered.inside

pub level_of-requires-clause-kept : goal.level_of-requires-clause-kept
level_of-requires-clause-kept g c =
    let trees = g.D.Derivatives.trees in
    let basis = g.D.Derivatives.basis in
    let old = c.args.derivatives.now in
    let new = c.entered.new.derivatives in
    let told = c.in_ok-numbers.ensures in
    kept_on (basis old) (basis new) (trees old) (trees new) c.args.table.now told.basis told.entered.longer
    c.requires.kept

pub returns-clause-after : goal.returns-clause-after
returns-clause-after g c =
    let reading = reading_by (g.D.Derivatives.basis c.args.derivatives.now) in
    let old = g.D.Derivatives.trees c.args.derivatives.now in
    let new = g.D.Derivatives.trees c.entered.new.derivatives in
    let level = c.in_ok-after.ensures.level in
    let ps = numbers_in (levels_in c.args.table.now) c.args.level.0 in
    record {
      there = level.0;
      after = subst (AddsEach (IsAfterTag reading (map attribute_of c.args.attrs.now)) old new ps) (sym level.1)
          (subst (λ ns. AddsEach (IsAfterTag reading (map attribute_of c.args.attrs.now)) old new ns c.in_ok-numbers.numbers.items) c.numbers-2.ensures
          c.in_ok-numbers.ensures.entered);
    }

pub level_of_one-requires-clause-kept : goal.level_of_one-requires-clause-kept
level_of_one-requires-clause-kept g c =
    let trees = g.D.Derivatives.trees in
    let basis = g.D.Derivatives.basis in
    let old = c.args.derivatives.now in
    let new = c.after_tag.new.self in
    let told = c.in_ok-left.ensures in
    kept_on (basis old) (basis new) (trees old) (trees new) c.args.table.now told.basis told.after.longer
    c.requires.kept

pub returns-in-len1-clause-after : goal.returns-in-len1-clause-after
returns-in-len1-clause-after g c =
    let reading = reading_by (g.D.Derivatives.basis c.args.derivatives.now) in
    let old = g.D.Derivatives.trees c.args.derivatives.now in
    let new = g.D.Derivatives.trees c.after_tag.new.self in
    let ps = numbers_in (levels_in c.args.table.now) c.args.level.0 in
    let inside = numbers_inside old (levels_in c.args.table.now) c.args.level.0 c.requires.kept.levels c.requires.level in
    let one : length c.numbers.result.now ≡ 1 = omega (arith, c.in-len1.len_at_least, c.in-len1.len_below) in
    if_ok c.level_of_one.result _ _ (λ n level. record {
      there = level.0;
      after = subst (AddsEach (IsAfterTag reading (map attribute_of c.args.attrs.now)) old new ps) (sym level.1)
          (only_one (IsAfterTag reading (map attribute_of c.args.attrs.now)) old new c.numbers.result.now ps _ c.in_ok-left.left c.numbers.ensures one inside c.in_ok-left.ensures.after);
    }) c.level_of_one.ensures.level

use Rattle.std.proofs.Common.{inr}
use Rattle.rng_deriv_laws.specs.plain.LevelStates.{IsAfterText}
use Rattle.rng_deriv_events.specs.views.Basis.{reading_by}
use Rattle.rng_deriv_events.specs.views.LevelTable.{levels_in, numbers_in, sample_in}
use Rattle.rng_deriv_events.proofs.KeptLevels.{after_long, zip_long}
use Rattle.rng_deriv_events.proofs.SampledLevels.{sample_serves, untested}
use Rattle.rng_deriv_events.proofs.held.hold_any.Goals as goal

pub returns-clause-inside : goal.returns-clause-inside
returns-clause-inside g c =
    let a = c.in_ok-after.ensures in (
      a.after.there,
      after_long (IsAfterText (reading_by (g.D.Derivatives.basis c.args.derivatives.now)) (sample_in (levels_in c.args.table.now) c.args.now.0))
          (g.D.Derivatives.trees c.args.derivatives.now) (g.D.Derivatives.trees c.level_after_sample.new.derivatives) c.args.table.now
          c.level_after_sample.new.table c.args.now.0 c.in_ok-after.after c.requires.now a.keeps.right.levels a.after,
    )

pub returns-clause-held : goal.returns-clause-held
returns-clause-held g c =
    let d = c.args.derivatives.now in
    let reading = reading_by (g.D.Derivatives.basis d) in
    let old = g.D.Derivatives.trees d in
    let new = g.D.Derivatives.trees c.level_after_sample.new.derivatives in
    let t = c.args.table.now in
    let n = c.args.now.0 in
    let a = c.in_ok-after.ensures.after in
    let found = untested (levels_in t) n c.requires.any in
    record {
      longer = a.after.longer;
      inside = (zip_long (IsAfterText reading (sample_in (levels_in t) n)) new (numbers_in (levels_in t) n) _ a.after.each, a.after.inside);
      held = λ s blank. (
        blank,
        (sample_serves reading (g.D.Derivatives.basis d).keys old new t c.level_after_sample.new.table n found.0 s c.in_ok-after.after c.requires.kept
            c.requires.now found.1 (inr found.2) a).after.each,
      );
    }

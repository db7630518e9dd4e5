use Rattle.std.proofs.Common.{sym}
use Rattle.rng_deriv_laws.specs.plain.LevelStates.{IsAfterText}
use Rattle.rng_deriv_events.specs.views.Basis.{reading_by}
use Rattle.rng_deriv_events.specs.views.LevelTable.{levels_in, numbers_in}
use Rattle.rng_deriv_events.proofs.KeptLevels.{after_long, numbers_inside, zip_long}
use Rattle.rng_deriv_events.proofs.Positions.{holds_text}
use Rattle.rng_deriv_events.proofs.held.hold.Goals as goal

pub returns-clause-inside : goal.returns-clause-inside
returns-clause-inside g c =
    let a = c.in_ok-after.ensures in (
      a.after.there,
      after_long (IsAfterText (reading_by (g.D.Derivatives.basis c.args.derivatives.now)) c.args.text.now) (g.D.Derivatives.trees c.args.derivatives.now)
          (g.D.Derivatives.trees c.level_after_text.new.derivatives) c.args.table.now c.level_after_text.new.table c.args.now.0 c.in_ok-after.after
          c.requires.now a.keeps.right.levels a.after,
    )

pub returns-clause-held : goal.returns-clause-held
returns-clause-held g c =
    let reading = reading_by (g.D.Derivatives.basis c.args.derivatives.now) in
    let old = g.D.Derivatives.trees c.args.derivatives.now in
    let now = numbers_in (levels_in c.args.table.now) c.args.now.0 in
    let a = c.in_ok-after.ensures in
    holds_text reading old (g.D.Derivatives.trees c.level_after_text.new.derivatives) now
    (record { blank = c.is_blank.result; after = numbers_in (levels_in c.level_after_text.new.table) c.in_ok-after.after.0 }) c.args.text.now
    (numbers_inside old (levels_in c.args.table.now) c.args.now.0 c.requires.kept.levels c.requires.now) (sym c.is_blank.ensures)
    (zip_long (IsAfterText reading c.args.text.now) (g.D.Derivatives.trees c.level_after_text.new.derivatives) now _ a.after.after.each) a.after.after

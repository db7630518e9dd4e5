use Rattle.std.proofs.Common.{[], subst, sym, ap}
use Rattle.rng_deriv_laws.specs.plain.LevelStates.{IsAfterTag}
use Rattle.rng_deriv_events.specs.views.Basis.{reading_by}
use Rattle.rng_deriv_events.specs.views.LevelTable.{levels_in}
use Rattle.rng_deriv_events.specs.views.KeptLevels.{IsAfterLevel}
use Rattle.rng_deriv_events.proofs.KeptLevels.{adds_closed, keeps_same, adds_through, found_after, kept_after, numbers_same_at}
use Rattle.rng_deriv_events.proofs.numbering.level_in_bare_tag.Goals as goal

pub returns-in-Some-clause-keeps : goal.returns-in-Some-clause-keeps
returns-in-Some-clause-keeps g c =
    let d = c.args.derivatives.now in
    keeps_same (g.D.Derivatives.basis d) (g.D.Derivatives.trees d) c.args.table.now c.requires.kept

pub returns-in-Some-clause-after : goal.returns-in-Some-clause-after
returns-in-Some-clause-after g c =
    let d = c.args.derivatives.now in
    found_after (IsAfterTag (reading_by (g.D.Derivatives.basis d)) []) (g.D.Derivatives.trees d) c.args.table.now c.args.level.0 c.in-Some.closed
    (c.requires.kept.closed c.args.level.0 c.in-Some.closed c.in-Some.ensures)

pub returns-clause-keeps : goal.returns-clause-keeps
returns-clause-keeps g c =
    let old = g.D.Derivatives.trees c.args.derivatives.now in
    let d = c.level_after_tag.new.derivatives in
    let new = g.D.Derivatives.trees d in
    let basis = g.D.Derivatives.basis in
    let keys = (g.D.Derivatives.basis d).keys in
    let t = c.level_after_tag.new.table in
    let first = c.in_ok-closed.ensures in
    let told = c.in_ok-keep_closed.ensures in
    let law = subst (λ r. IsAfterLevel (IsAfterTag r []) new (levels_in t) c.args.level.0 c.in_ok-closed.closed) (sym (ap reading_by first.keeps.basis))
    (kept_after (IsAfterTag (reading_by (basis c.args.derivatives.now)) []) old new c.args.table.now t c.args.level.0 c.in_ok-closed.closed c.requires.level
    first.keeps.right.levels first.after) in
    record {
      basis = first.keeps.basis;
      right = adds_through (reading_by (basis d)) (reading_by (basis d)) keys keys new new c.args.table.now t c.keep_closed.new.self first.keeps.right
          (adds_closed (reading_by (basis d)) keys new t c.keep_closed.new.self first.keeps.right.kept told.lists.levels told.lists.steps c.args.level.0
          c.in_ok-closed.closed law told.closed
          told.sampled told.ends);
    }

pub returns-clause-after : goal.returns-clause-after
returns-clause-after g c =
    let old = g.D.Derivatives.trees c.args.derivatives.now in
    let new = g.D.Derivatives.trees c.level_after_tag.new.derivatives in
    numbers_same_at (IsAfterTag (reading_by (g.D.Derivatives.basis c.args.derivatives.now)) []) old new _ c.level_after_tag.new.table c.keep_closed.new.self
    c.in_ok-closed.closed c.in_ok-keep_closed.ensures.lists.levels c.in_ok-closed.ensures.after

use Rattle.std.proofs.Common.{sym, ap}
use Rattle.rng_deriv_events.specs.views.Basis.{reading_by}
use Rattle.rng_deriv_events.specs.declared.level_table.step.End.{End}
use Rattle.rng_deriv_events.proofs.KeptLevels.{adds_end, keeps_same, adds_through, end_kept, ended_same_at, found_end}
use Rattle.rng_deriv_events.proofs.leaving.left_by.Goals as goal

pub returns-in-Some-end-clause-keeps : goal.returns-in-Some-end-clause-keeps
returns-in-Some-end-clause-keeps g c =
    let d = c.args.derivatives.now in
    keeps_same (g.D.Derivatives.basis d) (g.D.Derivatives.trees d) c.args.table.now c.requires.kept

pub returns-in-Some-end-clause-ended : goal.returns-in-Some-end-clause-ended
returns-in-Some-end-clause-ended g c = λ s at.
    let d = c.args.derivatives.now in
    found_end (reading_by (g.D.Derivatives.basis d)) (g.D.Derivatives.basis d).keys (g.D.Derivatives.trees d) c.args.table.now c.args.step.0
    (record { good = c.in-Some.bits; outside = c.in-Some-end.outside }) c.args.good.now s c.requires.kept c.in-Some-end.ensures at (sym c.in-Some.ensures)

pub returns-clause-keeps : goal.returns-clause-keeps
returns-clause-keeps g c =
    let trees = g.D.Derivatives.trees in
    let basis = g.D.Derivatives.basis in
    let before = c.args.derivatives.now in
    let d = c.left_anew-2.new.derivatives in
    let keys = (g.D.Derivatives.basis d).keys in
    let t = c.left_anew-2.new.table in
    let first = c.in_ok-outside.ensures in
    let told = c.in_ok-keep_end.ensures in
    let end : End = record { good = c.in-Some.bits; outside = c.in_ok-outside.outside } in
    let law = end_kept (reading_by (basis before)) (reading_by (basis d)) (g.D.Derivatives.basis before).keys (trees before) (trees d) c.args.table.now t
    c.args.step.0 end
    c.args.good.now (ap reading_by first.keeps.basis) c.requires.kept c.requires.step first.keeps.right.steps c.in-Some.ensures first.ended in
    record {
      basis = first.keeps.basis;
      right = adds_through (reading_by (basis d)) (reading_by (basis d)) keys keys (trees d) (trees d) c.args.table.now t c.keep_end.new.self first.keeps.right
          (adds_end (reading_by (basis d)) keys (trees d) t c.keep_end.new.self first.keeps.right.kept told.lists.levels told.lists.steps c.args.step.0 end law
          told.closed told.sampled told.ends);
    }

pub returns-clause-ended : goal.returns-clause-ended
returns-clause-ended g c = λ s at.
    ended_same_at (reading_by (g.D.Derivatives.basis c.args.derivatives.now)) c.args.good.now (g.D.Derivatives.trees c.args.derivatives.now)
    (g.D.Derivatives.trees c.left_anew-2.new.derivatives) s c.left_anew-2.new.table c.keep_end.new.self c.in_ok-outside.outside
    c.in_ok-keep_end.ensures.lists.levels (c.in_ok-outside.ensures.ended s at)

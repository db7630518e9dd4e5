use Rattle.std.proofs.Common.{◌≡◌, ◌∙◌, ap, subst, sym}
use Rattle.rng_deriv_laws.specs.plain.LevelStates.{IsAfterText}
use Rattle.rng_deriv_events.specs.views.Basis.{reading_by}
use Rattle.rng_deriv_events.specs.views.LevelTable.{levels_in, numbers_in, sample_in, sample_of}
use Rattle.rng_deriv_events.specs.views.KeptLevels.{AddsAfter, IsAfterLevel}
use Rattle.rng_deriv_events.proofs.KeptLevels.{keeps_same, adds_sampled, adds_through, found_after, kept_after, numbers_same_at, sample_grows}
use Rattle.rng_deriv_events.proofs.numbering.level_after_sample.Goals as goal

pub returns-in-Some-clause-keeps : goal.returns-in-Some-clause-keeps
returns-in-Some-clause-keeps g c =
    let d = c.args.derivatives.now in
    keeps_same (g.D.Derivatives.basis d) (g.D.Derivatives.trees d) c.args.table.now c.requires.kept

pub returns-in-Some-clause-after : goal.returns-in-Some-clause-after
returns-in-Some-clause-after g c =
    let d = c.args.derivatives.now in
    found_after (IsAfterText (reading_by (g.D.Derivatives.basis d)) (sample_in (levels_in c.args.table.now) c.args.level.0)) (g.D.Derivatives.trees d)
    c.args.table.now
    c.args.level.0 c.in-Some.after (c.requires.kept.sampled c.args.level.0 c.in-Some.after c.in-Some.ensures)

pub returns-clause-keeps : goal.returns-clause-keeps
returns-clause-keeps g c =
    let basis = g.D.Derivatives.basis in
    let a = c.args.derivatives.now in
    let d = c.level_after_string.new.derivatives in
    let old = g.D.Derivatives.trees a in
    let new = g.D.Derivatives.trees d in
    let keys = (g.D.Derivatives.basis d).keys in
    let was = c.args.table.now in
    let t = c.level_after_string.new.table in
    let n = c.args.level.0 in
    let m = c.in_ok-after.after in
    let s = sample_in (levels_in was) n in
    let first = c.in_ok-after.ensures in
    let told = c.in_ok-keep_sampled.ensures in
    let is : c.sample-text.result.now ≡ s = c.sample-text.ensures ∙ ap sample_of (sym c.level.ensures) in
    let after = subst (λ s. AddsAfter (IsAfterText (reading_by (basis a)) s) old new (numbers_in (levels_in was) n) t m) is first.after in
    let same : sample_in (levels_in t) n ≡ s = sample_grows (levels_in was) (levels_in t) n first.keeps.right.levels c.requires.level in
    let law = subst (λ s. IsAfterLevel (IsAfterText (reading_by (basis d)) s) new (levels_in t) n m) (sym same)
    (subst (λ r. IsAfterLevel (IsAfterText r s) new (levels_in t) n m) (sym (ap reading_by first.keeps.basis))
    (kept_after (IsAfterText (reading_by (basis a)) s) old new was t n m c.requires.level first.keeps.right.levels after)) in
    record {
      basis = first.keeps.basis;
      right = adds_through (reading_by (basis d)) (reading_by (basis d)) keys keys new new was t c.keep_sampled.new.self first.keeps.right
          (adds_sampled (reading_by (basis d)) keys new t c.keep_sampled.new.self first.keeps.right.kept told.lists.levels told.lists.steps n m law told.closed
          told.sampled told.ends);
    }

pub returns-clause-after : goal.returns-clause-after
returns-clause-after g c =
    let reading = reading_by (g.D.Derivatives.basis c.args.derivatives.now) in
    let old = g.D.Derivatives.trees c.args.derivatives.now in
    let new = g.D.Derivatives.trees c.level_after_string.new.derivatives in
    let t = c.level_after_string.new.table in
    let now = numbers_in (levels_in c.args.table.now) c.args.level.0 in
    let m = c.in_ok-after.after in
    let s = sample_in (levels_in c.args.table.now) c.args.level.0 in
    let is : c.sample-text.result.now ≡ s = c.sample-text.ensures ∙ ap sample_of (sym c.level.ensures) in
    numbers_same_at (IsAfterText reading s) old new now t c.keep_sampled.new.self m c.in_ok-keep_sampled.ensures.lists.levels
    (subst (λ s. AddsAfter (IsAfterText reading s) old new now t m) is c.in_ok-after.ensures.after)

use Rattle.std.proofs.lemmas.Result.{IfOk-weaker}
use Rattle.rng_deriv_laws.specs.plain.LevelStates.{IsAfterText}
use Rattle.rng_deriv_events.specs.views.Basis.{reading_by}
use Rattle.rng_deriv_events.specs.views.LevelTable.{levels_in, numbers_in, sample_in}
use Rattle.rng_deriv_events.specs.views.KeptLevels.{AddsAfter}
use Rattle.rng_deriv_events.proofs.SampledLevels.{sample_serves}
use Rattle.rng_deriv_events.proofs.numbering.level_after_text.Goals as goal

pub returns-then-is_like_sample-clause-after : goal.returns-then-is_like_sample-clause-after
returns-then-is_like_sample-clause-after g c =
    let d = c.args.derivatives.now in
    let reading = reading_by (g.D.Derivatives.basis d) in
    let old = g.D.Derivatives.trees d in
    let new = g.D.Derivatives.trees c.level_after_sample.new.derivatives in
    let t = c.args.table.now in
    let u = c.level_after_sample.new.table in
    let n = c.args.level.0 in
    IfOk-weaker c.level_after_sample.result (AddsAfter (IsAfterText reading (sample_in (levels_in t) n)) old new (numbers_in (levels_in t) n) u)
    (AddsAfter (IsAfterText reading c.args.text.now) old new (numbers_in (levels_in t) n) u)
    (λ m a. sample_serves reading (g.D.Derivatives.basis d).keys old new t u n c.level.result.now c.args.text.now m c.requires.kept c.requires.level
    c.level.ensures (c.is_like_sample.ensures c.if-is_like_sample.true) a) c.level_after_sample.ensures.after

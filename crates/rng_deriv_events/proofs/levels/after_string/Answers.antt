use Rattle.std.proofs.Common.{◌∙◌, ap}
use Rattle.rng_deriv_laws.specs.plain.LevelStates.{IsAfterText}
use Rattle.rng_deriv_events.specs.views.Basis.{reading_by}
use Rattle.rng_deriv_events.proofs.Numbers.{each_at}
use Rattle.rng_deriv_events.proofs.levels.after_string.Goals as goal

pub patterns-preserved : goal.patterns-preserved
patterns-preserved g c =
    let trees = g.D.Derivatives.trees in
    let basis = g.D.Derivatives.basis in
    let before = c.patterns.invariant in
    record {
      basis = c.in_ok-after_text.ensures.basis ∙ before.basis;
      first = each_at (λ r. IsAfterText r c.args.text.now) (reading_by (basis c.patterns.derivatives)) (reading_by (basis c.args.derivatives.now))
          (trees c.args.derivatives.now) (trees c.patterns.derivatives) (trees c.after_text.new.self) c.args.patterns.now c.patterns.after.items
          c.push.new.self.items c.patterns.pattern-index _ c.in_ok-after_text.field-0 (ap reading_by before.basis) before.first c.requires c.patterns-test.true
          c.in_ok-after_text.ensures.after c.in_ok-push.ensures.ok;
    }

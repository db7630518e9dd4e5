use Rattle.std.proofs.Common.{◌∙◌, map, ap}
use Rattle.rng_model.specs.documents.EventViews.{attribute_of}
use Rattle.rng_deriv_laws.specs.plain.LevelStates.{IsAfterTag}
use Rattle.rng_deriv_events.specs.views.Basis.{reading_by}
use Rattle.rng_deriv_events.proofs.Numbers.{each_at}
use Rattle.rng_deriv_events.proofs.levels.entered.Goals as goal

pub bodies-preserved : goal.bodies-preserved
bodies-preserved g c =
    let trees = g.D.Derivatives.trees in
    let basis = g.D.Derivatives.basis in
    let before = c.bodies.invariant in
    record {
      basis = c.in_ok-after_tag.ensures.basis ∙ before.basis;
      first = each_at (λ r. IsAfterTag r (map attribute_of c.args.attrs.now)) (reading_by (basis c.bodies.derivatives))
          (reading_by (basis c.args.derivatives.now))
          (trees c.args.derivatives.now) (trees c.bodies.derivatives) (trees c.after_tag.new.self) c.args.bodies.now c.bodies.entered.items
          c.push.new.self.items c.bodies.body-index _ c.in_ok-after_tag.field-0 (ap reading_by before.basis) before.first c.requires c.bodies-test.true
          c.in_ok-after_tag.ensures.after c.in_ok-push.ensures.ok;
    }

use Rattle.std.proofs.Common.{◌≡◌, map, take}
use Rattle.rng_model.specs.documents.EventViews.{attribute_of}
use Rattle.rng_deriv_laws.specs.plain.LevelStates.{IsAfterTag}
use Rattle.rng_deriv_events.specs.views.Basis.{reading_by}
use Rattle.rng_deriv_events.specs.views.Numbers.{AddsEach}
use Rattle.rng_deriv_events.proofs.levels.entered.Given as goal

abbrev pub invariant-bodies : goal.invariant-bodies
invariant-bodies g l =
    let trees = g.D.Derivatives.trees in
    let base = g.D.Derivatives.basis in record {
      basis : base l.derivatives ≡ base l.fn.derivatives;
      first : AddsEach (IsAfterTag (reading_by (base l.fn.derivatives)) (map attribute_of l.attrs)) (trees l.fn.derivatives) (trees l.derivatives)
          (take l.body-index l.bodies) l.entered.items;
    }

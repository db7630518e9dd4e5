use Rattle.std.proofs.Common.{◌≡◌, take}
use Rattle.rng_model.specs.names.Names.{Name}
use Rattle.rng_names.specs.plain.Keys.{key_of}
use Rattle.rng_deriv_events.specs.views.Basis.{reading_by}
use Rattle.rng_deriv_events.specs.views.Levels.{AddsOpened}
use Rattle.rng_deriv_events.specs.views.Numbers.{Longer}
use Rattle.rng_deriv_events.proofs.links.started.Given as goal

abbrev pub invariant-alternatives : goal.invariant-alternatives
invariant-alternatives g l =
    let trees = g.D.Derivatives.trees in
    let base = g.D.Derivatives.basis in record {
      basis : base l.derivatives ≡ base l.fn.derivatives;
      longer : Longer (trees l.fn.derivatives) (trees l.derivatives);
      first : (q : Name) → key_of (base l.fn.derivatives).keys q ≡ l.key.0 → AddsOpened (reading_by (base l.fn.derivatives)) q (trees l.fn.derivatives)
          (trees l.derivatives) (take l.outer l.now) l.bodies.items l.links.items;
    }

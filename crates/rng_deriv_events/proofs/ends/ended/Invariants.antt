use Rattle.std.proofs.Common.{◌≡◌, ◌≤◌, drop, length}
use Rattle.rng_deriv_events.specs.views.Basis.{reading_by}
use Rattle.rng_deriv_events.specs.views.Levels.{AddsEnded}
use Rattle.rng_deriv_events.proofs.ends.ended.Given as goal

abbrev pub invariant-links : goal.invariant-links
invariant-links g l =
    let trees = g.D.Derivatives.trees in
    let base = g.D.Derivatives.basis in record {
      within : l.left ≤ length l.links;
      basis : base l.derivatives ≡ base l.fn.derivatives;
      first : AddsEnded (reading_by (base l.fn.derivatives)) l.good l.around (trees l.fn.derivatives) (trees l.derivatives)
          (drop l.left l.links) l.outside.items;
    }

abbrev pub decreases-links : goal.decreases-links
decreases-links g l = l.left

use Rattle.std.proofs.Common.{◌≡◌, take}
use Rattle.rng_deriv_laws.specs.plain.LevelStates.{IsAfterText}
use Rattle.rng_deriv_events.specs.views.Basis.{reading_by}
use Rattle.rng_deriv_events.specs.views.Numbers.{AddsEach}
use Rattle.rng_deriv_events.proofs.levels.after_string.Given as goal

abbrev pub invariant-patterns : goal.invariant-patterns
invariant-patterns g l =
    let trees = g.D.Derivatives.trees in
    let base = g.D.Derivatives.basis in record {
      basis : base l.derivatives ≡ base l.fn.derivatives;
      first : AddsEach (IsAfterText (reading_by (base l.fn.derivatives)) l.text) (trees l.fn.derivatives) (trees l.derivatives)
          (take l.pattern-index l.patterns) l.after.items;
    }

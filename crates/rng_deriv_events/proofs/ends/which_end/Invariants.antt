use Rattle.std.proofs.Common.{◌≡◌, ◌↔◌, map, take, true}
use Rattle.std.specs.List.{AllZip}
use Rattle.rng_deriv_laws.specs.plain.LevelStates.{EndsNow}
use Rattle.rng_deriv_events.specs.views.Basis.{reading_by}
use Rattle.rng_deriv_events.specs.views.Numbers.{tree_of}
use Rattle.rng_deriv_events.proofs.ends.which_end.Given as goal

abbrev pub invariant-alternatives : goal.invariant-alternatives
invariant-alternatives g l =
    AllZip (λ p b. (b ≡ true) ↔ EndsNow (reading_by (g.D.Derivatives.basis l.derivatives)) p) (map (tree_of (g.D.Derivatives.trees l.derivatives))
    (take l.pattern-index l.now)) l.good.items

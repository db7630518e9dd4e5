use Rattle.std.proofs.Common.{◌≡◌, take, true}
use Rattle.std.specs.List.{list_all}
use Rattle.rng_deriv_laws.specs.plain.Derivatives.{is_not_allowed}
use Rattle.rng_deriv_events.specs.views.Numbers.{tree_of}
use Rattle.rng_deriv_events.proofs.numbering.is_hopeless.Given as goal

abbrev pub invariant-alternatives : goal.invariant-alternatives
invariant-alternatives g l =
    list_all (λ p. is_not_allowed (tree_of (g.D.Derivatives.trees l.derivatives) p)) (take l.pattern-index l.now) ≡ true

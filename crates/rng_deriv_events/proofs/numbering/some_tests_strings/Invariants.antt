use Rattle.std.proofs.Common.{◌≡◌, take, false}
use Rattle.std.specs.List.{list_any}
use Rattle.rng_deriv_laws.specs.plain.Derivatives.{has_data}
use Rattle.rng_deriv_events.specs.views.Numbers.{tree_of}
use Rattle.rng_deriv_events.proofs.numbering.some_tests_strings.Given as goal

abbrev pub invariant-alternatives : goal.invariant-alternatives
invariant-alternatives g l =
    list_any (λ p. has_data (tree_of (g.D.Derivatives.trees l.derivatives) p)) (take l.pattern-index l.now) ≡ false

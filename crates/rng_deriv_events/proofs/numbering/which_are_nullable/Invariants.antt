use Rattle.std.proofs.Common.{◌≡◌, take}
use Rattle.rng_deriv_events.specs.views.KeptLevels.{nullable_in}
use Rattle.rng_deriv_events.proofs.numbering.which_are_nullable.Given as goal

abbrev pub invariant-alternatives : goal.invariant-alternatives
invariant-alternatives g l = l.tests.items ≡ nullable_in (g.D.Derivatives.trees l.derivatives) (take l.pattern-index l.numbers)

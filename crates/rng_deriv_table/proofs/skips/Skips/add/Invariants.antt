use Rattle.rng_deriv_table.specs.views.Skips.{AreSkips}
use Rattle.rng_deriv_table.proofs.skips.Skips.add.Given as goal

abbrev pub invariant-patterns : goal.invariant-patterns
invariant-patterns l = AreSkips l.table l.fn.self → AreSkips l.table l.self

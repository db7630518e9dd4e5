use Rattle.std.proofs.Common.{ℕ, List}
use Rattle.rng_deriv_table.specs.views.Node.{Node}
use Rattle.rng_deriv_table.specs.views.Skips.{AreSkipsOf}
use Rattle.rng_deriv_table.proofs.skips.widen.Given as goal

abbrev pub invariant-powers : goal.invariant-powers
invariant-powers l = (ns : List Node) (ms : List ℕ) → AreSkipsOf ns ms l.fn.skips.items → AreSkipsOf ns ms l.skips.items

use Rattle.std.proofs.Common.{All, List, ◌<◌, length}
use Rattle.rng_deriv_table.specs.views.Node.{Node}
use Rattle.rng_deriv_ways.specs.plain.Ways.{AreInside}
use Rattle.rng_deriv_texts.proofs.plans.different_leaves.Given as goal

abbrev pub invariant-ways : goal.invariant-ways
invariant-ways l = (ns : List Node) → AreInside ns l.ways → All (λ m. m.0 < length ns) l.leaves.items

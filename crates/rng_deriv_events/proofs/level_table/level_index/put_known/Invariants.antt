use Rattle.std.proofs.Common.{ℕ, ◌+◌, ◌-◌, length}
use Rattle.rng_deriv_events.specs.declared.level_table.level.LevelNumber.{LevelNumber}
use Rattle.rng_deriv_events.specs.views.LevelTable.{IsKnownAt}
use Rattle.rng_deriv_events.proofs.level_table.level_index.put_known.Given as goal

abbrev pub invariant-places : goal.invariant-places
invariant-places l = (n : ℕ) (m : LevelNumber) → IsKnownAt l.known.items n m → IsKnownAt l.fn.known.items n m

abbrev pub decreases-places : goal.decreases-places
decreases-places l = (l.number + 1) - length l.known.items

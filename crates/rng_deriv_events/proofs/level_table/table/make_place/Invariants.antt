use Rattle.std.proofs.Common.{ℕ, ◌+◌, ◌-◌, length}
use Rattle.rng_deriv_events.specs.declared.level_table.step.End.{End}
use Rattle.rng_deriv_events.specs.views.LevelTable.{IsEndAt}
use Rattle.rng_deriv_events.proofs.level_table.table.make_place.Given as goal

abbrev pub invariant-places : goal.invariant-places
invariant-places l = (n : ℕ) (e : End) → IsEndAt l.ends.items n e → IsEndAt l.fn.ends.items n e

abbrev pub decreases-places : goal.decreases-places
decreases-places l = (l.number + 1) - length l.ends.items

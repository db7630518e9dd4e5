use Rattle.std.proofs.Common.{◌+◌, ◌-◌, length}
use Rattle.rng_deriv_events.proofs.level_table.level_index.make_place.Given as goal

abbrev pub decreases-places : goal.decreases-places
decreases-places l = (l.number + 1) - length l.near.items

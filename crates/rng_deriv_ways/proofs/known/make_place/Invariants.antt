use Rattle.std.proofs.Common.{◌+◌, ◌-◌, length}
use Rattle.rng_deriv_table.specs.declared.pattern.PatternNumber.{PatternNumber}
use Rattle.rng_deriv_ways.specs.declared.known.LastWays.{LastWays}
use Rattle.rng_deriv_ways.specs.views.KnownWays.{HasLast}
use Rattle.rng_deriv_ways.proofs.known.make_place.Given as goal

abbrev pub invariant-places : goal.invariant-places
invariant-places l = (n : PatternNumber) (ways : LastWays) → HasLast l.last.items n ways → HasLast l.fn.last.items n ways

abbrev pub decreases-places : goal.decreases-places
decreases-places l = (l.number.0 + 1) - length l.last.items

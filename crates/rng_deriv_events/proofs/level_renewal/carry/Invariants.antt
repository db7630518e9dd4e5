use Rattle.std.proofs.Common.{◌≡◌, ◌++◌, map, take}
use Rattle.rng_deriv_events.specs.views.LevelTable.{steps_in}
use Rattle.rng_deriv_events.specs.views.OpenPositions.{level_at, open_level}
use Rattle.rng_deriv_events.proofs.level_renewal.carry.Given as goal

abbrev pub invariant-steps : goal.invariant-steps
invariant-steps l =
    map open_level l.carried.items ≡ map open_level l.fn.carried.items ++ map (level_at (steps_in l.table)) (take l.number-index l.steps)

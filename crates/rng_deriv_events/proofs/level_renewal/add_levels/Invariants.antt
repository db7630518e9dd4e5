use Rattle.std.proofs.Common.{◌≡◌, ◌++◌, take}
use Rattle.rng_deriv_events.specs.views.LevelRenewal.{rests_in}
use Rattle.rng_deriv_events.proofs.level_renewal.add_levels.Given as goal

abbrev pub invariant-levels : goal.invariant-levels
invariant-levels l = l.held.items ≡ l.fn.held.items ++ rests_in (take l.level-index l.levels)

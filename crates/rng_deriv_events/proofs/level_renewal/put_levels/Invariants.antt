use Rattle.rng_deriv_events.proofs.LevelRenewal.{ArePut}
use Rattle.rng_deriv_events.proofs.level_renewal.put_levels.Given as goal

abbrev pub invariant-levels : goal.invariant-levels
invariant-levels l = ArePut l.fn.levels.items l.numbers l.level-index l.level-items l.behind

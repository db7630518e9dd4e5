use Rattle.std.proofs.Common.{rules}
use Rattle.rng_deriv_events.proofs.LevelRenewal.{put_more}
use Rattle.rng_deriv_events.proofs.level_renewal.put_levels.Goals as goal

pub levels-preserved : goal.levels-preserved
levels-preserved c =
    put_more c.args.levels.now.items c.args.numbers.now c.levels.level-index c.levels.level-items c.levels.behind.now c.levels.invariant _ (search rules)
    c.put_rests-behind.new.level c.put_rests-behind.result.now c.put_rests-behind.ensures.around c.put_rests-behind.ensures.links
    c.put_rests-behind.ensures.behind

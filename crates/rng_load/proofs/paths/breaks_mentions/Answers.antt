use Rattle.rng_load.proofs.Mentions.PathVerdicts.{judged}
use Rattle.rng_load.proofs.paths.breaks_mentions.Goals as goal

pub returns : goal.returns
returns c = judged _ _ _ _ c.is_none.ensures c.in_ok-number.ensures.counts

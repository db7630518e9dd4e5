use Rattle.rng_reasons.proofs.Allowed.{reduced_there}
use Rattle.rng_reasons.proofs.reduced_patterns.reduced_pattern_law.Goals as goal

pub returns : goal.returns
returns c = λ t number within. reduced_there t c.args.table.now c.pattern-pattern.ensures.table number within

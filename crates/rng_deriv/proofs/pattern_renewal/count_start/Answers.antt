use Rattle.rng_deriv.proofs.pattern_renewal.count_start.Goals as goal

pub returns-then-starts-ge-MOST_STARTS : goal.returns-then-starts-ge-MOST_STARTS
returns-then-starts-ge-MOST_STARTS c = λ t keys ns all. c.forget.ensures t keys ns ns all

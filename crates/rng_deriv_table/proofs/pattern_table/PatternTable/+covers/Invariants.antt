use Rattle.rng_deriv_table.proofs.pattern_table.PatternTable.+covers.Given as goal

abbrev pub decreases-covers : goal.decreases-covers
decreases-covers l = l.outer.0

use Rattle.rng_deriv_table.proofs.pattern_table.PatternTable.+joined_two.Given as goal

abbrev pub decreases-joined_two : goal.decreases-joined_two
decreases-joined_two l = l.levels

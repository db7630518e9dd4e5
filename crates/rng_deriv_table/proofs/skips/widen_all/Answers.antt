use Rattle.rng_deriv_table.proofs.skips.widen_all.Goals as goal

pub skips-preserved : goal.skips-preserved
skips-preserved c = λ ns ms all. c.widen.ensures ns ms (c.skips.invariant ns ms all)

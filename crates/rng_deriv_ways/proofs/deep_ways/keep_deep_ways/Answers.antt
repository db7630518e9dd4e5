use Rattle.rng_deriv_ways.proofs.AttributeTakers.{candidates_longer}
use Rattle.rng_deriv_ways.proofs.deep_ways.keep_deep_ways.Goals as goal

pub take_step-requires-clause-candidates : goal.take_step-requires-clause-candidates
take_step-requires-clause-candidates c =
    candidates_longer c.args.search.now.grammar.now c.args.table.now c.steps.table c.steps.invariant.longer c.args.search.now.kind
    c.args.search.now.candidates c.requires.candidates

use Rattle.rng_deriv_ways.proofs.KnownWays.{known_longer}
use Rattle.rng_deriv_ways.proofs.deep_ways.take_step.Goals as goal

pub returns-in_ok-add_beginnings-in-Some-Parts-clause-known : goal.returns-in_ok-add_beginnings-in-Some-Parts-clause-known
returns-in_ok-add_beginnings-in-Some-Parts-clause-known c =
    known_longer c.args.search.now.grammar.now c.args.table.now c.add_beginnings.new.table c.args.search.now.kind
    c.in_ok-add_beginnings-in-Some-Parts.ensures.longer
    c.args.known.now c.requires.known

use Rattle.rng_deriv_table.specs.views.Trees.{tree_of}
use Rattle.rng_deriv_texts.proofs.SettledRests.{settled_by}
use Rattle.rng_deriv_texts.proofs.settled.settled.Goals as goal

pub left_by_few-requires-clause-inside : goal.left_by_few-requires-clause-inside
left_by_few-requires-clause-inside c =
    (c.in-Some.ensures c.args.table.now c.requires.known).inside

pub returns-in-Some : goal.returns-in-Some
returns-in-Some c =
    let t0 = c.args.context.now.grammar.now in
    settled_by t0 c.args.table.now c.args.first (tree_of t0 c.args.table.now c.args.number.0) c.in-Some.ways.now c.left_by_few.result
    (c.in-Some.ensures c.args.table.now c.requires.known) c.left_by_few.ensures

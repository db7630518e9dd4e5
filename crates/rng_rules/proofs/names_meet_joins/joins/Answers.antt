use Rattle.std.proofs.Common.{arith}
use Rattle.std.proofs.lemmas.Option.{slice_get_within}
use Rattle.rng_rules.proofs.NamesMeetJoins.{joins_more}
use Rattle.rng_rules.proofs.names_meet_joins.joins.Goals as goal

pub loop-row-preserved : goal.loop-row-preserved
loop-row-preserved c =
    joins_more c.args.rows.now c.requires c.loop-row.row c.loop-row.joins.items c.add_join.new.joins.items (omega (arith, c.loop-row-test.true))
    c.in_ok-add_join.ensures c.loop-row.invariant

pub returns-clause-all : goal.returns-clause-all
returns-clause-all c = λ row left right j.
    c.loop-row.invariant.all row left right
    (omega (arith, c.loop-row-test.false, c.requires.long, slice_get_within c.args.rows.now.grammar.now.patterns row j.pattern j.is)) j

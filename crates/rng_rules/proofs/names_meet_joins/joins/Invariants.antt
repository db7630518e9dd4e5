use Rattle.rng_rules.proofs.NamesMeetJoins.{AreJoinsOfFirst}
use Rattle.rng_rules.proofs.names_meet_joins.joins.Given as goal

abbrev pub invariant-loop-row : goal.invariant-loop-row
invariant-loop-row l = AreJoinsOfFirst l.rows l.row l.joins.items

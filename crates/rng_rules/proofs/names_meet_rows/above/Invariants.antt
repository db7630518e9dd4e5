use Rattle.std.proofs.Common.{◌-◌, length}
use Rattle.rng_rules.specs.plain.NamesMeetReach.{lists}
use Rattle.rng_rules.proofs.NamesMeetTables.{IsAboveOfFirst}
use Rattle.rng_rules.proofs.names_meet_rows.above.Given as goal

abbrev pub invariant-rows : goal.invariant-rows
invariant-rows l = IsAboveOfFirst l.grammar.patterns (length l.all.items) (lists l.all.items)

abbrev pub decreases-rows : goal.decreases-rows
decreases-rows l = length l.grammar.patterns - length l.all.items

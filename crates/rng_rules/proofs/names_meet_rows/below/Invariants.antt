use Rattle.std.proofs.Common.{◌≡◌, ◌-◌, length, map, take}
use Rattle.rng_rules.specs.plain.NamesMeetReach.{lists}
use Rattle.rng_rules.specs.views.NamesMeetRows.{children}
use Rattle.rng_rules.proofs.names_meet_rows.below.Given as goal

abbrev pub invariant-rows : goal.invariant-rows
invariant-rows l = lists l.all.items ≡ take (length (lists l.all.items)) (map children l.grammar.patterns)

abbrev pub decreases-rows : goal.decreases-rows
decreases-rows l = length l.grammar.patterns - length l.all.items

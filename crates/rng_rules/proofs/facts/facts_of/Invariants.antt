use Rattle.std.proofs.Common.{◌-◌, ◌≤◌, length}
use Rattle.rng_model.specs.simple.Table.{tree_at}
use Rattle.rng_rules.specs.plain.Facts.{HasFacts}
use Rattle.rng_rules.proofs.facts.facts_of.Given as goal

abbrev pub invariant-patterns : goal.invariant-patterns
invariant-patterns l = record {
  within : length l.facts.items ≤ length l.grammar.patterns;
  so_far : HasFacts (tree_at l.grammar.patterns) l.facts.items;
}

abbrev pub decreases-patterns : goal.decreases-patterns
decreases-patterns l = length l.grammar.patterns - length l.facts.items

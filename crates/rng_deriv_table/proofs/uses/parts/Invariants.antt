use Rattle.std.proofs.Common.{◌≡◌, ◌≤◌, ◌-◌, length}
use Rattle.rng_deriv_table.proofs.GrammarUses.{ArePartsOwn}
use Rattle.rng_deriv_table.proofs.uses.parts.Given as goal

abbrev pub invariant-rows : goal.invariant-rows
invariant-rows l = record {
  within : length l.uses.items ≤ length l.grammar.patterns;
  counts : length l.counts.items ≡ length l.uses.items;
  parts : ArePartsOwn l.grammar l.uses.items (length l.uses.items);
}

abbrev pub decreases-rows : goal.decreases-rows
decreases-rows l = length l.grammar.patterns - length l.uses.items

use Rattle.std.proofs.Common.{◌≤◌, ◌-◌, length}
use Rattle.rng_deriv_table.specs.plain.AskedFor.{HasNumber}
use Rattle.rng_deriv_table.specs.plain.Kept.{AreKeptAt}
use Rattle.rng_deriv_table.specs.views.Options.{AreOptions}
use Rattle.rng_deriv_table.specs.views.Taking.{AreTakenAt}
use Rattle.rng_deriv_table.proofs.pattern_table.PatternTable.of.Given as goal

abbrev pub invariant-rows : goal.invariant-rows
invariant-rows l = record {
  within : length l.numbers.items ≤ length l.grammar.patterns;
  taken : AreTakenAt (HasNumber l.grammar l.uses.by_position.items) l.grammar l.table l.numbers.items;
  kept : AreKeptAt (HasNumber l.grammar l.uses.by_position.items) l.grammar l.table l.numbers.items;
  options : AreOptions l.table l.options;
}

abbrev pub decreases-rows : goal.decreases-rows
decreases-rows l = length l.grammar.patterns - length l.numbers.items

use Rattle.std.proofs.Common.{◌-◌, ◌≤◌, length}
use Rattle.rng_deriv_table.specs.plain.Selecting.{AreCopied}
use Rattle.rng_deriv_table.proofs.pattern_table.PatternTable.copied.Given as goal

abbrev pub invariant-rows : goal.invariant-rows
invariant-rows l = record {
  within : length l.given.items ≤ length l.self;
  copied : AreCopied l.self l.marks l.table l.given.items;
}

abbrev pub decreases-rows : goal.decreases-rows
decreases-rows l = length l.self - length l.given.items

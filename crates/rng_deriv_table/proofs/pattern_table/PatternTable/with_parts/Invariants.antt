use Rattle.std.proofs.Common.{◌≡◌, ◌≤◌, All, length}
use Rattle.rng_deriv_table.specs.plain.Selecting.{AreClosedFrom, IsMarked}
use Rattle.rng_deriv_table.proofs.pattern_table.PatternTable.with_parts.Given as goal

abbrev pub invariant-rows : goal.invariant-rows
invariant-rows l = record {
  within : l.left ≤ length l.self;
  long : length l.marks.items ≡ length l.self;
  marked : All (λ n. IsMarked l.marks.items n.0) l.numbers;
  closed : AreClosedFrom l.left l.self l.marks.items;
}

abbrev pub decreases-rows : goal.decreases-rows
decreases-rows l = l.left

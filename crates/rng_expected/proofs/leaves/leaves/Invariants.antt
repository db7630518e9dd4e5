use Rattle.std.proofs.Common.{◌≡◌, ◌≤◌, length}
use Rattle.rng_model.specs.simple.Table.{Table}
use Rattle.rng_expected.specs.plain.Leaves.{AreFoundDownTo}
use Rattle.rng_expected.proofs.leaves.leaves.Given as goal

abbrev pub invariant-rows : goal.invariant-rows
invariant-rows l = record {
  within : l.left ≤ length l.table;
  long : length l.marks.items ≡ length l.table;
  found : (t : Table) → AreFoundDownTo l.standing t l.table l.patterns l.left l.marks.items l.found.items;
}

abbrev pub decreases-rows : goal.decreases-rows
decreases-rows l = l.left

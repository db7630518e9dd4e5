use Rattle.std.proofs.Common.{◌-◌, ◌≤◌, length}
use Rattle.rng_model.specs.names.NameViews.{name_of}
use Rattle.rng_expected.specs.plain.TagLeaves.{AreTests}
use Rattle.rng_expected.proofs.needs.tests_of.Given as goal

abbrev pub invariant-rows : goal.invariant-rows
invariant-rows l = record {
  within : length l.tests.items ≤ length l.table;
  tests : AreTests l.grammar l.table (name_of l.name) l.tests.items;
}

abbrev pub decreases-rows : goal.decreases-rows
decreases-rows l = length l.table - length l.tests.items

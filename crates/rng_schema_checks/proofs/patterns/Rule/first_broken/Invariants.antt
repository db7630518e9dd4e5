use Rattle.std.proofs.Common.{◌≡◌, ◌≤◌, length, take}
use Rattle.rng_model.specs.views.SchemaView.{patterns_in}
use Rattle.rng_schema_checks.specs.plain.PatternTests.{has_written}
use Rattle.rng_schema_checks.specs.plain.RowTests.{first_met}
use Rattle.rng_schema_checks.specs.plain.RuleTests.{rule_test}
use Rattle.rng_schema_checks.proofs.patterns.Rule.first_broken.Given as goal

abbrev pub invariant-loop-row : goal.invariant-loop-row
invariant-loop-row l = record {
  count : l.count ≡ length (patterns_in (take l.row-index l.rows));
  first : l.broken ≡ first_met (has_written (rule_test l.self)) (patterns_in (take l.row-index l.rows));
  bound : l.count ≤ l.row-index;
}

use Rattle.std.proofs.Common.{◌≡◌, drop, map}
use Rattle.rng_model.specs.views.SchemaView.{schema_component_of}
use Rattle.rng_schema_checks.specs.plain.GrammarTests.{some_has}
use Rattle.rng_schema_checks.specs.plain.RuleTests.{rule_test}
use Rattle.rng_schema_checks.proofs.checking.break_rule.Given as goal

abbrev pub invariant-loop-component : goal.invariant-loop-component
invariant-loop-component l =
    some_has (rule_test l.rule) (map schema_component_of l.components) ≡
    some_has (rule_test l.rule) (map schema_component_of (drop l.component-index l.components))

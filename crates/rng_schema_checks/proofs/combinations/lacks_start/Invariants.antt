use Rattle.std.proofs.Common.{◌≡◌, drop, map}
use Rattle.rng_model.specs.views.SchemaView.{schema_component_of}
use Rattle.rng_schema_checks.specs.plain.GrammarTests.{lacks_start}
use Rattle.rng_schema_checks.proofs.combinations.lacks_start.Given as goal

abbrev pub invariant-loop-component : goal.invariant-loop-component
invariant-loop-component l =
    lacks_start (map schema_component_of l.components) ≡ lacks_start (map schema_component_of (drop l.component-index l.components))

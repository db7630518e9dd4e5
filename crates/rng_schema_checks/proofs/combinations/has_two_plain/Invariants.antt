use Rattle.std.proofs.Common.{◌≡◌, [], drop, map}
use Rattle.rng_model.specs.views.SchemaView.{schema_component_of}
use Rattle.rng_schema_checks.specs.plain.GrammarTests.{names_in, two_plain}
use Rattle.rng_schema_checks.proofs.combinations.has_two_plain.Given as goal

abbrev pub invariant-loop-component : goal.invariant-loop-component
invariant-loop-component l =
    two_plain [] (map schema_component_of l.components) ≡ two_plain (names_in l.names) (map schema_component_of (drop l.component-index l.components))

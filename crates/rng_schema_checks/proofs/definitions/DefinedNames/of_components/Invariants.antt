use Rattle.std.proofs.Common.{◌≡◌, ◌||◌, ℕ, List, Some, drop, map}
use Rattle.std.specs.List.{list_any}
use Rattle.rng_model.specs.views.SchemaView.{schema_component_of}
use Rattle.rng_schema_checks.specs.views.Defined.{has_name}
use Rattle.rng_schema_checks.specs.plain.GrammarTests.{is_named}
use Rattle.rng_schema_checks.proofs.definitions.DefinedNames.of_components.Given as goal

abbrev pub invariant-loop-component : goal.invariant-loop-component
invariant-loop-component l = (y : List ℕ) → list_any (is_named (Some y)) (map schema_component_of l.components) ≡
    (has_name l.names y || list_any (is_named (Some y)) (map schema_component_of (drop l.component-index l.components)))

use Rattle.std.proofs.Common.{◌≡◌, ◌||◌, drop, map}
use Rattle.std.specs.List.{list_any}
use Rattle.rng_model.specs.views.SchemaView.{schema_component_of}
use Rattle.rng_schema_checks.specs.plain.GrammarTests.{Name, has, is_interleaved_as, names_in}
use Rattle.rng_schema_checks.proofs.combinations.interleaved_names.Given as goal

abbrev pub invariant-loop-component : goal.invariant-loop-component
invariant-loop-component l = (y : Name) → list_any (is_interleaved_as y) (map schema_component_of l.components) ≡
    (has (names_in l.names) y || list_any (is_interleaved_as y) (map schema_component_of (drop l.component-index l.components)))

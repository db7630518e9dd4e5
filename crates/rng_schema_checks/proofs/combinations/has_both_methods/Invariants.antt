use Rattle.std.proofs.Common.{◌≡◌, ◌&&◌, drop, map}
use Rattle.std.specs.List.{list_any}
use Rattle.rng_model.specs.views.SchemaView.{schema_component_of}
use Rattle.rng_schema_checks.specs.plain.GrammarTests.{both_methods, is_choice, is_interleaved_as}
use Rattle.rng_schema_checks.proofs.combinations.has_both_methods.Given as goal

abbrev pub invariant-loop-component : goal.invariant-loop-component
invariant-loop-component l =
    let cs = map schema_component_of l.components in
    both_methods cs ≡ list_any (λ c. is_choice c.method && list_any (is_interleaved_as c.name) cs)
    (map schema_component_of (drop l.component-index l.components))

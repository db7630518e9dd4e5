use Rattle.std.proofs.Common.{◌≡◌, map, drop}
use Rattle.std.specs.List.{list_any}
use Rattle.rng_model.specs.schema.Schema.{is_interleaved}
use Rattle.rng_model.specs.views.SchemaView.{schema_component_of}
use Rattle.rng_simple.proofs.graph.bodies.are_interleaved.Given as goal

abbrev pub invariant-loop-component : goal.invariant-loop-component
invariant-loop-component l =
    list_any (λ c. is_interleaved c.method) (map (λ c. schema_component_of c.now) l.components)
    ≡ list_any (λ c. is_interleaved c.method) (map (λ c. schema_component_of c.now) (drop l.component-index l.components))

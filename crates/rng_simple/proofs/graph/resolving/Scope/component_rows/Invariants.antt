use Rattle.std.proofs.Common.{[], map, drop, option_map}
use Rattle.rng_model.specs.views.SchemaView.{place_of, schema_component_of}
use Rattle.rng_simple.specs.views.Definitions.{numbering_of}
use Rattle.rng_simple.specs.views.GraphView.{forest}
use Rattle.rng_simple.proofs.BuiltGraphs.ResolvedMembers.{AreResolved}
use Rattle.rng_simple.proofs.graph.resolving.Scope.component_rows.Given as goal

abbrev pub invariant-loop-component : goal.invariant-loop-component
invariant-loop-component l =
    AreResolved (place_of l.self.place.now) (option_map (λ z. place_of z.now) l.self.outer) [] (map (λ c. (schema_component_of c.now).pattern) l.components)
    (numbering_of l.fn.numbering) (map (λ c. (schema_component_of c.now).pattern) (drop l.component-index l.components))
    (forest l.rows.items) (numbering_of l.numbering)

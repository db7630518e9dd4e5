use Rattle.std.proofs.Common.{◌≡◌, ◌++◌, drop, map}
use Rattle.rng_model.specs.schema.Schema as schemas
use Rattle.rng_model.specs.views.SchemaView.{place_of, schema_component_of}
use Rattle.rng_simple.specs.views.ComponentTable.{IsTable, components_of, table_of, those_at}
use Rattle.rng_simple.proofs.graph.components.ComponentTable.add_grammar.Given as goal

-- its components now, and those that are left, are its first ones and all of the grammar
abbrev pub invariant-loop-component : goal.invariant-loop-component
invariant-loop-component l =
    IsTable (table_of l.self) × ((d : schemas.Definition)
    → components_of (table_of l.self) d ++ those_at d (place_of l.place) (map schema_component_of (drop l.component-index l.components))
    ≡ components_of (table_of l.fn.self) d ++ those_at d (place_of l.place) (map schema_component_of l.components))

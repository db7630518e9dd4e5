use Rattle.std.proofs.Common.{drop, map}
use Rattle.rng_model.specs.views.SchemaView.{place_of}
use Rattle.rng_load.specs.views.PlacedGrammars.{schema_of}
use Rattle.rng_simple.specs.views.ComponentTable.{table_of}
use Rattle.rng_simple.proofs.BuiltGraphs.ComponentTables.{Gathers}
use Rattle.rng_simple.proofs.graph.components.ComponentTable.of_schema.Given as goal

-- its components, and those at the places that are left, are those of the schema
abbrev pub invariant-loop-place : goal.invariant-loop-place
invariant-loop-place l = Gathers (schema_of l.schema) (map place_of (drop l.place-index l.place-items)) (table_of l.table)

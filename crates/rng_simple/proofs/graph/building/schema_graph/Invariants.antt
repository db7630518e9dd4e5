use Rattle.std.proofs.Common.{◌-◌, length, map}
use Rattle.rng_load.specs.views.PlacedGrammars.{schema_of}
use Rattle.rng_simple.specs.views.ComponentTable.{table_of}
use Rattle.rng_simple.specs.views.Definitions.{numbering_of}
use Rattle.rng_simple.specs.views.GraphView.{graph_body_of}
use Rattle.rng_simple.proofs.BuiltGraphs.GraphSteps.{IsGraphSoFar}
use Rattle.rng_simple.proofs.graph.building.schema_graph.Given as goal

abbrev pub decreases-definitions : goal.decreases-definitions
decreases-definitions l = length (table_of l.table).definitions - length l.bodies.items

abbrev pub invariant-definitions : goal.invariant-definitions
invariant-definitions l = IsGraphSoFar (schema_of l.schema) (numbering_of l.numbering) (map graph_body_of l.bodies.items)

use Rattle.std.proofs.Common.{◌≡◌, length, take}
use Rattle.rng_simple.specs.plain.Graph.{IsFilledBy, spot_depth}
use Rattle.rng_simple.specs.views.GraphView.{graph_of}
use Rattle.rng_simple.specs.plain.MemberDepths.{depth_in}
use Rattle.rng_simple.proofs.graph.depth_table.depths.Given as goal

abbrev pub invariant-loop-j : goal.invariant-loop-j
invariant-loop-j l = record {
  long : length l.table.items ≡ length l.graph.bodies.items;
  filled : IsFilledBy (graph_of l.graph) (spot_depth (depth_in l.table.items)) (depth_in l.table.items) (take l.j-index l.order);
}

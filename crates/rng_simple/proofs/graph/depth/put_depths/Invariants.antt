use Rattle.std.proofs.Common.{◌≡◌, map, take}
use Rattle.rng_simple.specs.plain.DepthWith.{depth_with}
use Rattle.rng_simple.specs.plain.MemberDepths.{depth_at_spot}
use Rattle.rng_simple.specs.views.GraphView.{forest}
use Rattle.rng_simple.proofs.graph.depth.put_depths.Given as goal

abbrev pub invariant-loop-row : goal.invariant-loop-row
invariant-loop-row l = l.depths.items ≡ map (depth_with (depth_at_spot l.definitions)) (forest (take l.row-index l.rows))

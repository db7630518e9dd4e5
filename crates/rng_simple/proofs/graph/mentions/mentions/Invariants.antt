use Rattle.std.proofs.Common.{◌≡◌, map, take}
use Rattle.rng_simple.specs.views.GraphView.{graph_body_of}
use Rattle.rng_simple.specs.plain.Mentioned.{mentioned}
use Rattle.rng_simple.specs.plain.Search.{lists}
use Rattle.rng_simple.proofs.graph.mentions.mentions.Given as goal

abbrev pub invariant-loop-body : goal.invariant-loop-body
invariant-loop-body l = lists l.all.items ≡ map mentioned (map graph_body_of (take l.body-index l.graph.bodies.items))

use Rattle.std.proofs.Common.{◌≡◌, ◌<◌, ◌∙◌, ap, subst, length, get_or, arith, refl}
use Rattle.std.proofs.lemmas.List.{length-map, length-set, take_all}
use Rattle.rng_model.proofs.Places.{read_at}
use Rattle.rng_simple.specs.plain.Graph.{IsFilledBy, spot_depth}
use Rattle.rng_simple.specs.views.GraphView.{graph_body_of, graph_of}
use Rattle.rng_simple.specs.plain.MemberDepths.{depth_in}
use Rattle.rng_simple.proofs.NumberedGraphs.DepthTable.{filled_next}
use Rattle.rng_simple.proofs.graph.depth_table.depths.Goals as goal
use Rattle.rng_simple.proofs.ListParts.{map_at}

pub loop-j-preserved : goal.loop-j-preserved
loop-j-preserved c =
    let g = graph_of c.args.graph.now in
    let bodies = c.args.graph.now.bodies.items in
    let order = c.args.order.now in
    let i = c.loop-j.j-index in
    let j = get_or order i 0 in
    let table = c.loop-j.table.items in
    let inside : i < length order = omega arith in
    let below : j < length bodies = omega (arith, c.requires.within i 0 inside, length-map bodies graph_body_of) in
    let there = map_at graph_body_of bodies j c.index.result.now (read_at bodies j c.index.result.now c.index.result.now below c.index.ensures refl) in
    let new : c.in_ok-depth.depth ≡ spot_depth (depth_in table) (graph_body_of c.index.result.now) =
    c.in_ok-depth.ensures ∙ ap (λ ns. spot_depth (depth_in ns) (graph_body_of c.index.result.now)) c.as_slice.ensures.value in
    record {
      long = length-set table j c.in_ok-depth.depth ∙ c.loop-j.invariant.long;
      filled = filled_next g order c.requires.order table i j c.in_ok-depth.depth (graph_body_of c.index.result.now) inside refl there
          (omega (arith, below, c.loop-j.invariant.long)) new c.loop-j.invariant.filled;
    }

pub returns : goal.returns
returns c =
    let order = c.args.order.now in
    subst (IsFilledBy (graph_of c.args.graph.now) (spot_depth (depth_in c.loop-j.table.items)) (depth_in c.loop-j.table.items))
    (take_all c.loop-j.j-index order (omega arith)) c.loop-j.invariant.filled

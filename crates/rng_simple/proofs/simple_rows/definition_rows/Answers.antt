use Rattle.std.proofs.Common.{◌≡◌, ◌<◌, ◌∙◌, ap, subst, length, get_or, arith, refl}
use Rattle.std.proofs.lemmas.List.{length-map, length-set, take_all}
use Rattle.rng_model.proofs.Places.{read_at}
use Rattle.rng_simple.specs.plain.Graph.{IsFilledBy}
use Rattle.rng_simple.specs.views.GraphView.{graph_body_of, graph_of}
use Rattle.rng_simple.proofs.ListParts.{map_at}
use Rattle.rng_simple.specs.plain.GrammarBy.{spot_simple}
use Rattle.rng_simple.specs.views.RowTable.{tree_of}
use Rattle.rng_simple.specs.plain.SimpleParts.{values_in}
use Rattle.rng_simple.proofs.Tables.SimpleParts.{grown_twice}
use Rattle.rng_simple.proofs.Tables.SimpleRows.{set_below, filled_next}
use Rattle.rng_simple.proofs.simple_rows.definition_rows.Goals as goal

pub loop-j-preserved : goal.loop-j-preserved
loop-j-preserved c =
    let g = graph_of c.args.graph.now in
    let bodies = c.args.graph.now.bodies.items in
    let order = c.args.order.now in
    let i = c.loop-j.j-index in
    let j = get_or order i 0 in
    let t = c.loop-j.table in
    let u = c.simple_body.new.table in
    let rows = c.loop-j.rows.items in
    let grown = c.in_ok-row.ensures.grown in
    let inside : i < length order = omega (arith, c.loop-j-test.true) in
    let below : j < length bodies = omega (arith, c.requires.within i 0 inside, length-map bodies graph_body_of) in
    let there = map_at graph_body_of bodies j c.index.result.now (read_at bodies j c.index.result.now c.index.result.now below c.index.ensures refl) in
    let has_row : j < length rows = omega (arith, below, c.loop-j.invariant.long) in
    let new : tree_of u c.in_ok-row.row ≡ spot_simple (values_in t rows) (graph_body_of c.index.result.now) =
    c.in_ok-row.ensures.tree ∙ ap (λ ns. spot_simple (values_in t ns) (graph_body_of c.index.result.now)) c.as_slice.ensures.value in
    record {
      grown = grown_twice c.args.table.now t u c.loop-j.invariant.grown grown;
      long = length-set rows j c.in_ok-row.row ∙ c.loop-j.invariant.long;
      below = set_below t u grown rows c.loop-j.invariant.below j c.in_ok-row.row has_row c.in_ok-row.ensures.there;
      filled = filled_next t u grown rows c.loop-j.invariant.below j c.in_ok-row.row has_row c.in_ok-row.ensures.there g order c.requires.order i
          (graph_body_of c.index.result.now) inside refl there new c.loop-j.invariant.filled;
    }

pub returns-clause-filled : goal.returns-clause-filled
returns-clause-filled c =
    let order = c.args.order.now in
    let values = values_in c.loop-j.table c.loop-j.rows.items in
    subst (IsFilledBy (graph_of c.args.graph.now) (spot_simple values) values) (take_all c.loop-j.j-index order (omega (arith, c.loop-j-test.false)))
    c.loop-j.invariant.filled

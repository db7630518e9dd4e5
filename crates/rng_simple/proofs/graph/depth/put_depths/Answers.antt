use Rattle.std.proofs.Common.{◌≡◌, ◌∙◌, ◌-◌, ◌++◌, ◌∷◌, [], ap, ap₂, sym, length, map, take}
use Rattle.rng_simple.specs.plain.DepthWith.{depth_with}
use Rattle.rng_simple.specs.plain.MemberDepths.{depth_at_spot}
use Rattle.rng_simple.specs.views.GraphView.{arity}
use Rattle.rng_model.proofs.ReplacedLists.{rest_from}
use Rattle.rng_simple.proofs.Forests.{no_rows}
use Rattle.rng_simple.proofs.NumberedGraphs.MemberDepths.{next_depths}
use Rattle.rng_simple.proofs.graph.depth.put_depths.Goals as goal

pub loop-row-init : goal.loop-row-init
loop-row-init c = c.clear.ensures.items ∙ ap (map (depth_with (depth_at_spot c.args.definitions.now))) (sym no_rows)

pub loop-row-preserved : goal.loop-row-preserved
loop-row-preserved c =
    let before = c.loop-row.depths.items in
    let row = c.row-item.result in
    let start : c.saturating_sub-start.result ≡ length before - arity row =
    c.saturating_sub-start.ensures ∙ ap₂ (λ n m. n - m) (c.len.ensures ∙ c.loop-row.depths.ok.0) c.arity.ensures in
    next_depths (depth_at_spot c.args.definitions.now) c.args.rows.now c.loop-row.row-index row before c.push.new.self.items _ c.row_depth-depth.result
    c.loop-row-test.true c.row-item.is c.loop-row.invariant
    (rest_from (length before - arity row) c.saturating_sub-start.result before c.deref.result.now c.deref.ensures.value start) c.row_depth-depth.ensures
    (c.in_ok-push.ensures.items
    ∙ ap (λ ns. ns ++ c.row_depth-depth.result ∷ []) (c.truncate.ensures.items ∙ ap (λ n. take n before) start))

use Rattle.std.proofs.Common.{◌≡◌, ◌∙◌, ◌-◌, ◌++◌, ◌∷◌, [], ap, ap₂, sym, length, map, take}
use Rattle.rng_model.proofs.ReplacedLists.{rest_from}
use Rattle.rng_simple.specs.views.GraphView.{arity}
use Rattle.rng_simple.proofs.Forests.{no_rows}
use Rattle.rng_simple.specs.plain.GrammarBy.{spot_simple}
use Rattle.rng_simple.specs.plain.SimpleParts.{values_in}
use Rattle.rng_simple.specs.views.RowTable.{tree_of}
use Rattle.rng_simple.proofs.Tables.SimpleParts.{grown_twice, next_below, next_sides, none_below, stays, values_stay}
use Rattle.rng_simple.proofs.simple_parts.put_sides.Goals as goal

pub loop-row-init : goal.loop-row-init
loop-row-init c =
    let t = c.args.table.now in
    let values = values_in t c.args.parts.now in
    record {
      grown = stays t c.requires.table;
      there = none_below t c.requires.table c.clear.new.self.items c.clear.ensures.items;
      trees = ap (map (tree_of t)) c.clear.ensures.items ∙ ap (map (spot_simple values)) (sym no_rows);
    }

pub loop-row-preserved : goal.loop-row-preserved
loop-row-preserved c =
    let start_table = c.args.table.now in
    let t = c.loop-row.table in
    let u = c.simple_row.new.table in
    let parts = c.args.parts.now in
    let before = c.loop-row.sides.items in
    let row = c.row-item.result in
    let id = c.in_ok-side.side in
    let i = c.loop-row.row-index in
    let grown = c.in_ok-side.ensures.grown in
    let start : c.saturating_sub-start.result ≡ length before - arity row =
    c.saturating_sub-start.ensures ∙ ap₂ (λ n m. n - m) (c.len.ensures ∙ c.loop-row.sides.ok.0) c.arity.ensures in
    let inside = rest_from (length before - arity row) c.saturating_sub-start.result before c.deref.result.now c.deref.ensures.value start in
    let more = c.in_ok-push.ensures.items ∙ ap (λ ns. ns ++ id ∷ []) (c.truncate.ensures.items ∙ ap (λ n. take n before) start) in
    record {
      grown = grown_twice start_table t u c.loop-row.invariant.grown grown;
      there = next_below t u grown c.loop-row.invariant.grown.table (values_in start_table parts) (values_in t parts) c.args.rows.now i row c.loop-row-test.true
          c.row-item.is before _ c.push.new.self.items id c.loop-row.invariant.there inside c.in_ok-side.ensures.there more;
      trees = next_sides t u grown c.loop-row.invariant.grown.table (values_in start_table parts) (values_in t parts) c.args.rows.now i row c.loop-row-test.true
          c.row-item.is before _ c.push.new.self.items id c.loop-row.invariant.there inside c.in_ok-side.ensures.there more
          c.loop-row.invariant.trees (values_stay start_table t parts c.loop-row.invariant.grown c.requires.parts) c.in_ok-side.ensures.tree;
    }

use Rattle.std.proofs.Common.{◌≡◌, ◌∙◌, ap, sym, subst, ◌+◌, ◌-◌}
use Rattle.rng_model.specs.views.SchemaView.{row_arity}
use Rattle.rng_simple.proofs.BuiltGraphs.WholePatterns.{IsFirst, at_start, ends, first_found, goes_on}
use Rattle.rng_simple.proofs.graph.whole_patterns.first_pattern.Goals.{then-count-eq1, else-count-eq1}
use Rattle.rng_simple.proofs.graph.whole_patterns.first_pattern.Goals as goal

pub loop-index-init : goal.loop-index-init
loop-index-init c = at_start c.args.rows.now

pub loop-index-preserved : goal.loop-index-preserved
loop-index-preserved c =
    let rows = c.args.rows.now in
    let i = c.loop-index.index in
    let row = c.index-rows-index.result in
    let before = c.loop-index.count in
    let end = c.loop-index.end in
    let count = c.saturating_sub-count.result + 1 in
    let next : count ≡ before - row_arity row + 1 =
    ap (λ n. n + 1) (c.saturating_sub-count.ensures ∙ ap (λ n. before - n) c.arity.ensures) in
    elim c.if-count-eq1.branch [
      | then-count-eq1 w ↦
          subst (λ n. IsFirst rows (i + 1) count n) (sym w.end-is)
          (ends rows i row before end count c.loop-index-test.true c.index-rows-index.is c.loop-index.invariant next w.if-count-eq1.true)
      | else-count-eq1 w ↦
          subst (λ n. IsFirst rows (i + 1) count n) (sym w.end-is)
          (goes_on rows i row before end count c.loop-index-test.true c.index-rows-index.is c.loop-index.invariant next w.if-count-eq1.false)
    ]

pub returns : goal.returns
returns c = first_found c.args.rows.now c.loop-index.index c.loop-index.count c.loop-index.end c.loop-index-test.false c.loop-index.invariant

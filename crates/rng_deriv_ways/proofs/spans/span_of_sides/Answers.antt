use Rattle.std.proofs.Common.{subst, sym}
use Rattle.rng_model.specs.simple.Tree.{s_joined}
use Rattle.rng_deriv_table.specs.views.Trees.{tree_of}
use Rattle.rng_deriv_ways.specs.plain.Takers.{IsSpanOf}
use Rattle.rng_deriv_ways.proofs.AttributeTakers.{span_of_both}
use Rattle.rng_deriv_ways.proofs.spans.span_of_sides.Goals as goal

pub returns : goal.returns
returns c = λ t ns k all.
    let p = tree_of t ns c.args.first.0 in
    let q = tree_of t ns c.args.second.0 in
    subst (IsSpanOf t (s_joined k p q)) (sym c.joined.ensures)
    (span_of_both t k p q c.span_at.result c.span_at-2.result (c.span_at.ensures t ns all) (c.span_at-2.ensures t ns all))

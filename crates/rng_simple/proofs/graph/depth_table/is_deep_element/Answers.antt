use Rattle.std.proofs.Common.{◌∙◌, ◌<◌, ℕ, List, ap, inr, subst}
use Rattle.rng_simple.specs.plain.DepthWith.{depth_with}
use Rattle.rng_simple.specs.plain.MemberDepths.{depth_at_spot}
use Rattle.rng_simple.specs.views.GraphView.{child, forest}
use Rattle.rng_simple.specs.declared.graph.parts.GraphRow.{GraphRow}
use Rattle.rng_simple.proofs.graph.depth_table.is_deep_element.Goals as goal

pub returns-then-depth-gt-DEPTH_LIMIT-clause-deep : goal.returns-then-depth-gt-DEPTH_LIMIT-clause-deep
returns-then-depth-gt-DEPTH_LIMIT-clause-deep c = λ yes.
    let of_rows : List GraphRow → ℕ = λ rows. depth_with (depth_at_spot c.args.definitions.now) (child (forest rows)) in
    inr (subst (λ n. 1000 < n) (c.in_ok-depth.ensures ∙ ap of_rows c.deref.ensures.value) c.if-depth-gt-DEPTH_LIMIT.true)

use Rattle.std.proofs.Common.{◌∙◌, All, ap, map, subst, sym}
use Rattle.rng_model.specs.simple.Table.{grammar_of}
use Rattle.rng_deriv_table.specs.views.Trees.{tree_of}
use Rattle.rng_deriv_table.specs.declared.pattern.PatternNumber.{PatternNumber}
use Rattle.rng_expected.specs.declared.leaves.Standing.TheVariants as standings
use Rattle.rng_expected.specs.plain.Leaves.{IsLeafAt}
use Rattle.rng_expected.specs.plain.Nexts.{with_leaves}
use Rattle.rng_expected.specs.views.Next.{next_of}
use Rattle.rng_expected.proofs.NextLeaves.{all_expected}
use Rattle.rng_expected.proofs.expecting.expected.Goals as goal

pub returns : goal.returns
returns c =
    let t = c.args.grammar.now in
    all_expected (grammar_of t) t c.args.table.now c.args.alternatives.now c.in_ok-found.found.items (c.in_ok-found.ensures t)
    (next_of c.in_ok-expected.expected)
    (c.in_ok-expected.ensures ∙ ap (λ ns. with_leaves (grammar_of t) (map (λ (n : PatternNumber). tree_of t c.args.table.now n.0) ns)) c.as_slice.ensures.value)

pub collected-requires : goal.collected-requires
collected-requires c =
    subst (All (IsLeafAt standings.First c.args.table.now)) (sym c.as_slice.ensures.value) (c.in_ok-found.ensures c.args.grammar.now).leaves

use Rattle.std.proofs.Common.{get_or}
use Rattle.std.proofs.lemmas.List.{map_more}
use Rattle.rng_model.specs.simple.Table.{grammar_of}
use Rattle.rng_deriv_table.specs.views.Trees.{tree_of}
use Rattle.rng_deriv_table.specs.declared.pattern.PatternNumber.{PatternNumber}
use Rattle.rng_expected.specs.views.Next.{next_of}
use Rattle.rng_expected.proofs.CollectedLeaves.{one_more_leaf}
use Rattle.rng_expected.proofs.collecting.collected.Goals as goal

pub leaves-init : goal.leaves-init
leaves-init c = c.nothing-expected.ensures

pub leaves-preserved : goal.leaves-preserved
leaves-preserved c =
    let t = c.args.grammar.now in
    one_more_leaf (grammar_of t) _ (tree_of t c.args.table.now (get_or c.args.found.now c.leaves.leaf-index (record { 0 = 0 })).0)
    (next_of c.leaves.expected) (next_of c.take_leaf.new.expected) _
    (map_more (λ (n : PatternNumber). tree_of t c.args.table.now n.0) c.args.found.now c.leaves.leaf-index (record { 0 = 0 }) c.leaves-test.true)
    c.leaves.invariant c.in_ok-take_leaf.ensures

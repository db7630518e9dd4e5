use Rattle.std.proofs.Common.{◌≡◌, map, take}
use Rattle.rng_model.specs.simple.Table.{grammar_of}
use Rattle.rng_deriv_table.specs.views.Trees.{tree_of}
use Rattle.rng_expected.specs.plain.Nexts.{with_leaves}
use Rattle.rng_expected.specs.views.Next.{next_of}
use Rattle.rng_expected.proofs.collecting.collected.Given as goal

abbrev pub invariant-leaves : goal.invariant-leaves
invariant-leaves l =
    next_of l.expected ≡ with_leaves (grammar_of l.grammar) (map (λ n. tree_of l.grammar l.table n.0) (take l.leaf-index l.found))

use Rattle.std.proofs.Common.{List, map, take}
use Rattle.rng_model.specs.simple.Table.{Table}
use Rattle.rng_deriv_table.specs.views.Node.{Node}
use Rattle.rng_deriv_table.specs.views.Trees.{choice_over, tree_of}
use Rattle.rng_deriv_ways.specs.plain.Takers.{AreSpansOf, IsSpanOf}
use Rattle.rng_deriv_ways.proofs.spans.span_of_members.Given as goal

abbrev pub invariant-members : goal.invariant-members
invariant-members l = (t : Table) (ns : List Node) → AreSpansOf t ns l.spans
    → IsSpanOf t (choice_over (tree_of t ns) (map (λ m. m.0) (take l.member-index l.members))) l.all

use Rattle.std.proofs.Common.{◌<◌, length}
use Rattle.rng_model.specs.simple.Table.{Table}
use Rattle.rng_deriv_table.specs.plain.Copies.{IsOpened}
use Rattle.rng_deriv_table.specs.views.PatternTable.{Longer}
use Rattle.rng_deriv_table.specs.views.Trees.{tree_of}
use Rattle.rng_deriv_table.proofs.pattern_table.PatternTable.reassociated.Given as goal

abbrev pub invariant-groups : goal.invariant-groups
invariant-groups l = record {
  longer : Longer l.fn.self l.self;
  front : l.front.0 < length l.self;
  rest : l.rest.0 < length l.self;
  opened : (t : Table) → IsOpened (tree_of t l.fn.self l.fn.first.0) (tree_of t l.fn.self l.fn.second.0) (tree_of t l.self l.front.0)
      (tree_of t l.self l.rest.0);
}

abbrev pub decreases-groups : goal.decreases-groups
decreases-groups l = l.front.0

use Rattle.std.proofs.Common.{◌++◌, take}
use Rattle.rng_deriv_laws.specs.plain.Derivatives.{behind}
use Rattle.rng_deriv_table.specs.views.PatternTable.{Longer}
use Rattle.rng_deriv_table.specs.views.Trees.{tree_of}
use Rattle.rng_deriv_ways.specs.plain.Ways.{StandFor, filled, ways_by}
use Rattle.rng_deriv_ways.proofs.filling.add_filled.Given as goal

abbrev pub invariant-ways : goal.invariant-ways
invariant-ways l = record {
  longer : Longer l.fn.table l.table;
  ways : StandFor l.table l.all.items (λ t. ways_by (tree_of t l.fn.table) l.fn.all.items
      ++ behind (filled (tree_of t l.fn.table) l.hole) (ways_by (tree_of t l.fn.table) (take l.way-index l.ways)));
}

use Rattle.std.proofs.Common.{take}
use Rattle.rng_model.specs.simple.Table.{Table}
use Rattle.rng_deriv_table.specs.views.PatternTable.{Longer}
use Rattle.rng_deriv_table.specs.views.Trees.{tree_of}
use Rattle.rng_deriv_ways.specs.plain.Ways.{ways_by}
use Rattle.rng_deriv.specs.views.Starts.{OpensLike}
use Rattle.rng_deriv.proofs.starts.joined_ways.Given as goal

abbrev pub invariant-ways : goal.invariant-ways
invariant-ways l = record {
  longer : Longer l.fn.table l.table;
  joined : (t : Table) → OpensLike t l.table (ways_by (tree_of t l.fn.table) (take l.way-index l.ways)) l.joined.items;
}

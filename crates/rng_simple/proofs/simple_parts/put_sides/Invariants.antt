use Rattle.std.proofs.Common.{◌≡◌, map, take}
use Rattle.rng_simple.specs.views.GraphView.{forest}
use Rattle.rng_simple.specs.plain.GrammarBy.{spot_simple}
use Rattle.rng_simple.specs.views.RowTable.{IsGrown, row_count, tree_of}
use Rattle.rng_simple.specs.plain.SimpleParts.{AreRowsBelow, values_in}
use Rattle.rng_simple.proofs.simple_parts.put_sides.Given as goal

abbrev pub invariant-loop-row : goal.invariant-loop-row
invariant-loop-row l = record {
  grown : IsGrown l.fn.table l.table;
  there : AreRowsBelow (row_count l.table) l.sides.items;
  trees : map (tree_of l.table) l.sides.items ≡ map (spot_simple (values_in l.fn.table l.parts)) (forest (take l.row-index l.rows));
}

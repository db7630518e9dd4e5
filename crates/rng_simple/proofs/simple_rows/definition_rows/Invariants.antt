use Rattle.std.proofs.Common.{◌≡◌, length, take}
use Rattle.rng_simple.specs.plain.Graph.{IsFilledBy}
use Rattle.rng_simple.specs.views.GraphView.{graph_of}
use Rattle.rng_simple.specs.plain.GrammarBy.{spot_simple}
use Rattle.rng_simple.specs.views.RowTable.{IsGrown, row_count}
use Rattle.rng_simple.specs.plain.SimpleParts.{AreRowsBelow, values_in}
use Rattle.rng_simple.proofs.simple_rows.definition_rows.Given as goal

abbrev pub invariant-loop-j : goal.invariant-loop-j
invariant-loop-j l =
    let values = values_in l.table l.rows.items in record {
      grown : IsGrown l.fn.table l.table;
      long : length l.rows.items ≡ length l.graph.bodies.items;
      below : AreRowsBelow (row_count l.table) l.rows.items;
      filled : IsFilledBy (graph_of l.graph) (spot_simple values) values (take l.j-index l.order);
    }

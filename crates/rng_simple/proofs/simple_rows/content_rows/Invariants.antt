use Rattle.std.proofs.Common.{◌≡◌, ◌<◌, ℕ, length, slice_index_or}
use Rattle.rng_simple.specs.views.GraphView.{graph_of}
use Rattle.rng_simple.specs.plain.GrammarBy.{content_simple}
use Rattle.rng_simple.specs.views.RowTable.{IsGrown, row_count, tree_of}
use Rattle.rng_simple.specs.plain.SimpleParts.{AreRowsBelow, values_in}
use Rattle.rng_simple.proofs.simple_rows.content_rows.Given as goal

abbrev pub invariant-elements : goal.invariant-elements
invariant-elements l = record {
  grown : IsGrown l.fn.table l.table;
  long : length l.rows.items ≡ l.element-index;
  below : AreRowsBelow (row_count l.table) l.rows.items;
  contents : (k : ℕ) → k < l.element-index
      → tree_of l.table (slice_index_or l.rows.items k 0) ≡ content_simple (graph_of l.graph) (values_in l.fn.table l.definitions) k;
}

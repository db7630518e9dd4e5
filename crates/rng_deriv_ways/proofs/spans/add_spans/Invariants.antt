use Rattle.std.proofs.Common.{◌≡◌, length}
use Rattle.rng_model.specs.simple.Table.{Table}
use Rattle.rng_deriv_ways.specs.plain.Takers.{AreSpansOf}
use Rattle.rng_deriv_ways.proofs.spans.add_spans.Given as goal

abbrev pub invariant-patterns : goal.invariant-patterns
invariant-patterns l = record {
  count : length l.spans.items ≡ l.number;
  spans : (t : Table) → AreSpansOf t l.table l.fn.spans.items → AreSpansOf t l.table l.spans.items;
}

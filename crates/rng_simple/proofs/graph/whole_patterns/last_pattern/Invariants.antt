use Rattle.std.proofs.Common.{◌<◌, length}
use Rattle.rng_simple.proofs.BuiltGraphs.WholePatterns.{Takes}
use Rattle.rng_simple.proofs.graph.whole_patterns.last_pattern.Given as goal

abbrev pub invariant-rows : goal.invariant-rows
invariant-rows l = record {
  within : l.begin < length l.rows;
  takes : Takes l.rows l.begin l.missing;
}

abbrev pub decreases-rows : goal.decreases-rows
decreases-rows l = l.begin

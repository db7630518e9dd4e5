use Rattle.rng_simple.proofs.BuiltGraphs.WholePatterns.{IsFirst}
use Rattle.rng_simple.proofs.graph.whole_patterns.first_pattern.Given as goal

abbrev pub invariant-loop-index : goal.invariant-loop-index
invariant-loop-index l = IsFirst l.rows l.index l.count l.end

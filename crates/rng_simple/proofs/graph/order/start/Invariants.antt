use Rattle.rng_simple.specs.plain.Search.{IsStart}
use Rattle.rng_simple.proofs.graph.order.start.Given as goal

abbrev pub invariant-loop-k : goal.invariant-loop-k
invariant-loop-k l = IsStart l.k l.marks.items l.tasks.items

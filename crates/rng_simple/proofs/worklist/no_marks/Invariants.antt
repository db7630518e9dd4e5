use Rattle.std.proofs.Common.{◌≡◌, [], length}
use Rattle.rng_simple.specs.plain.Worklist.{IsMarked}
use Rattle.rng_simple.proofs.worklist.no_marks.Given as goal

abbrev pub invariant-loop-k : goal.invariant-loop-k
invariant-loop-k l = record {
  long : length l.marks.items ≡ l.k;
  none : IsMarked l.marks.items [];
}

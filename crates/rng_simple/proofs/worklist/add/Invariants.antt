use Rattle.std.proofs.Common.{◌≡◌, length, take}
use Rattle.rng_labels.specs.plain.Queues.{Adds}
use Rattle.rng_simple.specs.plain.Worklist.{IsMarked}
use Rattle.rng_simple.proofs.worklist.add.Given as goal

abbrev pub invariant-loop-k : goal.invariant-loop-k
invariant-loop-k l = record {
  marked : IsMarked l.marks.items l.seen.items;
  long : length l.marks.items ≡ length l.fn.marks.items;
  adds : Adds l.fn.seen.items (take l.k-index l.numbers) l.seen.items;
}

use Rattle.std.proofs.Common.{◌≡◌, ◌-◌, ◌<◌, [], length, slice_index_or, All}
use Rattle.rng_simple.specs.plain.Search.{lists}
use Rattle.rng_labels.specs.plain.Queues.{IsQueue}
use Rattle.rng_simple.specs.plain.Worklist.{IsMarked}
use Rattle.rng_simple.proofs.worklist.collect.Given as goal

abbrev pub invariant-queue : goal.invariant-queue
invariant-queue l = record {
  marked : IsMarked l.marks.items l.seen.items;
  long : length l.marks.items ≡ length l.next;
  below : All (λ k. k < length l.next) l.seen.items;
  queue : IsQueue (λ j. slice_index_or (lists l.next) j []) l.start l.seen.items l.i;
}

abbrev pub decreases-queue : goal.decreases-queue
decreases-queue l = length l.next - l.i

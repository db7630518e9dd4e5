use Rattle.std.proofs.Common.{◌≡◌, ◌-◌, ◌<◌, [], length, slice_index_or, All}
use Rattle.rng_labels.specs.plain.Queues.{IsQueue}
use Rattle.rng_rules.specs.plain.NamesMeetReach.{IsMarked, lists}
use Rattle.rng_rules.proofs.names_meet_reach.reach.Given as goal

abbrev pub invariant-queue : goal.invariant-queue
invariant-queue l = record {
  marked : IsMarked l.round l.marks.items l.rows.items;
  long : length l.marks.items ≡ length l.next;
  below : All (λ k. k < length l.next) l.rows.items;
  queue : IsQueue (λ j. slice_index_or (lists l.next) j []) l.start l.rows.items l.done;
}

abbrev pub decreases-queue : goal.decreases-queue
decreases-queue l = length l.next - l.done

use Rattle.std.proofs.Common.{rules, ◌≡◌, sym, subst, ◌∙◌, ◌<◌, [], length, slice_get, slice_index_or, All, Some, vec_items, refl, arith}
use Rattle.std.proofs.lemmas.List.{length-map}
use Rattle.std.proofs.lemmas.List.Elements.{All-nil}
use Rattle.rng_model.proofs.Members.{all_from_members}
use Rattle.rng_model.proofs.Places.{read_at}
use Rattle.rng_simple.specs.plain.Search.{lists}
use Rattle.rng_labels.specs.plain.Queues.{Adds}
use Rattle.rng_labels.proofs.Queues.{queue_begins, queue_goes, below_more, queue_is_done}
use Rattle.rng_simple.proofs.Tables.QueueMarks.{queue_is_short}
use Rattle.rng_simple.proofs.worklist.collect.Goals as goal

pub queue-init : goal.queue-init
queue-init c =
    let none : c.new-seen.result.items ≡ [] = search rules in
    let adds = subst (λ xs. Adds xs c.args.start.now c.add.new.seen.items) none c.in_ok-add.ensures.adds in record {
      marked = c.in_ok-add.ensures.marked;
      long = c.in_ok-add.ensures.long ∙ c.in_ok-marks.ensures.long;
      below = below_more (length c.args.next.now) [] c.args.start.now c.add.new.seen.items (All-nil (λ k. k < length c.args.next.now)) c.requires.start adds;
      queue = queue_begins _ c.args.start.now c.add.new.seen.items adds;
    }

pub add-requires-in-queue-clause-below : goal.add-requires-in-queue-clause-below
add-requires-in-queue-clause-below c =
    subst (λ n. All (λ k. k < n) c.next_to.result.now) (sym c.queue.invariant.long)
    (subst (λ xs. All (λ k. k < length c.args.next.now) xs) (sym c.next_to.ensures)
    (all_from_members (λ k. k < length c.args.next.now) (slice_index_or (lists c.args.next.now) c.index-k.result.now [])
    (λ k h. omega (arith, c.requires.next c.index-k.result.now k h, length-map c.args.next.now vec_items))))

pub queue-smaller : goal.queue-smaller
queue-smaller c =
    let l : c.len.result ≡ length c.queue.seen.items = search rules in
    omega (arith, c.queue-test.true, l, queue_is_short c.queue.marks.items c.queue.seen.items c.queue.invariant.marked, c.queue.invariant.long)

pub queue-preserved : goal.queue-preserved
queue-preserved c =
    let l : c.len.result ≡ length c.queue.seen.items = search rules in
    let here : slice_get c.queue.seen.items c.queue.i ≡ Some c.index-k.result.now =
    read_at c.queue.seen.items c.queue.i c.index-k.result.now c.index-k.result.now (omega (arith, c.queue-test.true, l)) c.index-k.ensures refl in
    let adds = subst (λ xs. Adds c.queue.seen.items xs c.add-in-queue.new.seen.items) c.next_to.ensures c.in_ok-add-2.ensures.adds in record {
      marked = c.in_ok-add-2.ensures.marked;
      long = c.in_ok-add-2.ensures.long ∙ c.queue.invariant.long;
      below = below_more (length c.args.next.now) c.queue.seen.items (slice_index_or (lists c.args.next.now) c.index-k.result.now [])
          c.add-in-queue.new.seen.items c.queue.invariant.below
          (all_from_members (λ k. k < length c.args.next.now) (slice_index_or (lists c.args.next.now) c.index-k.result.now [])
          (λ k h. omega (arith, c.requires.next c.index-k.result.now k h, length-map c.args.next.now vec_items)))
          adds;
      queue = queue_goes _ c.args.start.now c.queue.seen.items c.add-in-queue.new.seen.items c.queue.i c.index-k.result.now c.queue.invariant.queue here adds;
    }

pub returns-clause-reached : goal.returns-clause-reached
returns-clause-reached c = λ k.
    let l : c.len.result ≡ length c.queue.seen.items = search rules in
    let done = queue_is_done _ c.args.start.now c.queue.seen.items c.queue.i c.queue.invariant.queue (omega (arith, c.queue-test.false, l)) k in
    let marked = c.queue.invariant.marked in
    (λ r. marked.seen k (done.0 r), λ m. done.1 (marked.marked k m))

use Rattle.std.proofs.Common.{rules, ◌≡◌, sym, subst, ◌∙◌, ◌<◌, [], length, slice_get, slice_index_or, All, Some, refl, arith}
use Rattle.std.proofs.lemmas.List.Elements.{All-nil}
use Rattle.rng_model.proofs.Members.{all_from_members}
use Rattle.rng_model.proofs.Places.{read_at}
use Rattle.rng_labels.specs.plain.Queues.{Adds}
use Rattle.rng_rules.specs.plain.NamesMeetReach.{IsMarked, lists}
use Rattle.rng_labels.proofs.Queues.{queue_begins, queue_goes, below_more, queue_is_done}
use Rattle.rng_rules.proofs.NamesMeetQueues.{nothing_marked}
use Rattle.rng_rules.proofs.names_meet_reach.reach.Goals as goal

pub add-requires-clause-marked : goal.add-requires-clause-marked
add-requires-clause-marked c =
    let none : c.new-rows.result.items ≡ [] = search rules in
    subst (IsMarked c.args.round c.args.marks.now.items) (sym none) (nothing_marked c.args.round c.args.marks.now.items c.requires.round)

pub queue-init : goal.queue-init
queue-init c =
    let none : c.new-rows.result.items ≡ [] = search rules in
    let adds = subst (λ xs. Adds xs c.args.start.now c.add.new.rows.items) none c.in_ok-add.ensures.adds in record {
      marked = c.in_ok-add.ensures.marked;
      long = c.in_ok-add.ensures.long ∙ c.requires.long;
      below = below_more (length c.args.next.now) [] c.args.start.now c.add.new.rows.items (All-nil (λ k. k < length c.args.next.now)) c.requires.start adds;
      queue = queue_begins _ c.args.start.now c.add.new.rows.items adds;
    }

pub add-requires-in-queue-clause-below : goal.add-requires-in-queue-clause-below
add-requires-in-queue-clause-below c =
    subst (λ n. All (λ k. k < n) c.next_to.result.now) (sym c.queue.invariant.long)
    (subst (λ xs. All (λ k. k < length c.args.next.now) xs) (sym c.next_to.ensures)
    (all_from_members (λ k. k < length c.args.next.now) (slice_index_or (lists c.args.next.now) c.index-row.result.now [])
    (λ k h. c.requires.next c.index-row.result.now k h)))

pub queue-smaller : goal.queue-smaller
queue-smaller c =
    let l : c.len.result ≡ length c.queue.rows.items = search rules in
    omega (arith, c.queue-test.true, l, c.queue.invariant.marked.count, c.queue.invariant.long)

pub queue-preserved : goal.queue-preserved
queue-preserved c =
    let l : c.len.result ≡ length c.queue.rows.items = search rules in
    let here : slice_get c.queue.rows.items c.queue.done ≡ Some c.index-row.result.now =
    read_at c.queue.rows.items c.queue.done c.index-row.result.now c.index-row.result.now (omega (arith, c.queue-test.true, l)) c.index-row.ensures refl in
    let adds = subst (λ xs. Adds c.queue.rows.items xs c.add-in-queue.new.rows.items) c.next_to.ensures c.in_ok-add-2.ensures.adds in record {
      marked = c.in_ok-add-2.ensures.marked;
      long = c.in_ok-add-2.ensures.long ∙ c.queue.invariant.long;
      below = below_more (length c.args.next.now) c.queue.rows.items (slice_index_or (lists c.args.next.now) c.index-row.result.now [])
          c.add-in-queue.new.rows.items c.queue.invariant.below
          (all_from_members (λ k. k < length c.args.next.now) (slice_index_or (lists c.args.next.now) c.index-row.result.now [])
          (λ k h. c.requires.next c.index-row.result.now k h))
          adds;
      queue = queue_goes _ c.args.start.now c.queue.rows.items c.add-in-queue.new.rows.items c.queue.done c.index-row.result.now c.queue.invariant.queue here adds;
    }

pub returns-clause-reached : goal.returns-clause-reached
returns-clause-reached c = λ k.
    let l : c.len.result ≡ length c.queue.rows.items = search rules in
    queue_is_done _ c.args.start.now c.queue.rows.items c.queue.done c.queue.invariant.queue (omega (arith, c.queue-test.false, l)) k

pub returns-clause-marked : goal.returns-clause-marked
returns-clause-marked c = λ k.
    let l : c.len.result ≡ length c.queue.rows.items = search rules in
    let done = queue_is_done _ c.args.start.now c.queue.rows.items c.queue.done c.queue.invariant.queue (omega (arith, c.queue-test.false, l)) k in
    let marked = c.queue.invariant.marked in
    (λ r. marked.seen k (done.0 r), λ m. done.1 (marked.marked k m))

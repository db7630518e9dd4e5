use Rattle.std.proofs.Common.{sym, subst, ◌∙◌, take}
use Rattle.std.proofs.lemmas.List.{take_more}
use Rattle.rng_labels.specs.plain.Queues.{Adds}
use Rattle.rng_labels.proofs.Queues.{adds_then}
use Rattle.rng_simple.proofs.worklist.add.Goals as goal

pub loop-k-preserved : goal.loop-k-preserved
loop-k-preserved c =
    let n = take_more c.args.numbers.now c.loop-k.k-index 0 c.loop-k-test.true in
    let a = adds_then c.args.seen.now.items (take c.loop-k.k-index c.args.numbers.now) c.loop-k.seen.items _ c.add_one.new.seen.items
    c.loop-k.invariant.adds c.in_ok-add_one.ensures.adds in record {
      marked = c.in_ok-add_one.ensures.marked;
      long = c.in_ok-add_one.ensures.long ∙ c.loop-k.invariant.long;
      adds = subst (λ xs. Adds c.args.seen.now.items xs c.add_one.new.seen.items) (sym n) a;
    }

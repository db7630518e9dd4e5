use Rattle.std.proofs.Common.{rules, ◌≡◌, sym, subst, true, false, [], ◌∷◌, ◌++◌, set}
use Rattle.rng_model.proofs.Places.{read_at}
use Rattle.rng_simple.specs.plain.Worklist.{IsMarked}
use Rattle.rng_labels.proofs.Queues.{adds_there}
use Rattle.rng_simple.proofs.Tables.QueueMarks.{one_marked}
use Rattle.rng_simple.proofs.worklist.add_one.Goals as goal

pub returns-in_ok-push-clause-marked : goal.returns-in_ok-push-clause-marked
returns-in_ok-push-clause-marked c =
    let e : c.push.new.self.items ≡ c.args.seen.now.items ++ c.args.k ∷ [] = search rules in
    let f : c.index.result.now ≡ false = search rules in
    subst (IsMarked (set c.args.marks.now.items c.args.k true)) (sym e)
    (one_marked c.args.marks.now.items c.args.seen.now.items c.args.k c.requires.marked
    (read_at c.args.marks.now.items c.args.k c.index.result.now false c.requires.below c.index.ensures f))

pub returns-else-not-index-clause-adds : goal.returns-else-not-index-clause-adds
returns-else-not-index-clause-adds c =
    let f : c.index.result.now ≡ true = search rules in
    adds_there c.args.seen.now.items c.args.k (c.requires.marked.marked c.args.k
    (read_at c.args.marks.now.items c.args.k c.index.result.now true c.requires.below c.index.ensures f))

use Rattle.std.proofs.Common.{rules, ◌≡◌, ◌≢◌, sym, subst, [], ◌∷◌, ◌++◌, set, refl}
use Rattle.rng_model.proofs.Places.{read_at}
use Rattle.rng_rules.specs.plain.NamesMeetReach.{IsMarked}
use Rattle.rng_labels.proofs.Queues.{adds_there}
use Rattle.rng_rules.proofs.NamesMeetQueues.{one_marked}
use Rattle.rng_rules.proofs.names_meet_reach.add_one.Goals as goal

pub returns-in_ok-push-clause-marked : goal.returns-in_ok-push-clause-marked
returns-in_ok-push-clause-marked c =
    let e : c.push.new.self.items ≡ c.args.rows.now.items ++ c.args.k ∷ [] = search rules in
    let f : c.index.result.now ≢ c.args.round = search rules in
    subst (IsMarked c.args.round (set c.args.marks.now.items c.args.k c.args.round)) (sym e)
    (one_marked c.args.round c.args.marks.now.items c.args.rows.now.items c.args.k c.index.result.now c.requires.marked
    (read_at c.args.marks.now.items c.args.k c.index.result.now c.index.result.now c.requires.below c.index.ensures refl) f)

pub returns-else-index-round-clause-adds : goal.returns-else-index-round-clause-adds
returns-else-index-round-clause-adds c =
    let f : c.index.result.now ≡ c.args.round = search rules in
    adds_there c.args.rows.now.items c.args.k (c.requires.marked.marked c.args.k
    (read_at c.args.marks.now.items c.args.k c.index.result.now c.args.round c.requires.below c.index.ensures f))

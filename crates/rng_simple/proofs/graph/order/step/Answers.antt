use Rattle.std.proofs.Common.{rules, ◌≡◌, sym, subst, ◌<◌, [], ◌∷◌, ◌++◌, length, vec_items, arith}
use Rattle.std.proofs.lemmas.List.{length-map}
use Rattle.rng_model.proofs.Places.{read_at}
use Rattle.rng_simple.specs.declared.graph.order.Mark.TheVariants as mark
use Rattle.rng_simple.specs.plain.Search.{number_of, lists}
use Rattle.rng_simple.proofs.NumberedGraphs.SearchSteps.{number_below, number_marked, step_new, step_open, step_done, step_leave}
use Rattle.rng_simple.proofs.graph.order.step.Goals as goal

pub index-requires : goal.index-requires
index-requires c =
    let h = subst (λ t. number_of t < length c.args.marks.now.items) c.in-Enter.is
    (number_marked _ _ c.args.tasks.now.items _ c.args.task c.requires.search) in search (rules, h)

pub index_mut-requires : goal.index_mut-requires
index_mut-requires c =
    let h = subst (λ t. number_of t < length c.args.marks.now.items) c.in-Enter.is
    (number_marked _ _ c.args.tasks.now.items _ c.args.task c.requires.search) in search (rules, h)

pub mentions-requires : goal.mentions-requires
mentions-requires c =
    let below = number_below _ _ c.args.tasks.now.items _ c.args.task c.requires.search in
    omega (arith, subst (λ t. number_of t < length (lists c.args.all.now)) c.in-Enter.is below, length-map c.args.all.now vec_items)

pub index_mut-requires-in-Leave : goal.index_mut-requires-in-Leave
index_mut-requires-in-Leave c =
    let h = subst (λ t. number_of t < length c.args.marks.now.items) c.in-Leave.is
    (number_marked _ _ c.args.tasks.now.items _ c.args.task c.requires.search) in search (rules, h)

pub returns-in-Open : goal.returns-in-Open
returns-in-Open c =
    let h = subst (λ t. number_of t < length c.args.marks.now.items) c.in-Enter.is
    (number_marked _ _ c.args.tasks.now.items _ c.args.task c.requires.search) in
    step_open _ _ _ _ _ c.in-Enter.j c.requires.search c.in-Enter.is
    (read_at c.args.marks.now.items c.in-Enter.j c.index.result.now mark.Open h c.index.ensures c.in-Open.is)

pub returns-in-Done : goal.returns-in-Done
returns-in-Done c =
    let h = subst (λ t. number_of t < length c.args.marks.now.items) c.in-Enter.is
    (number_marked _ _ c.args.tasks.now.items _ c.args.task c.requires.search) in
    step_done _ _ _ _ _ c.in-Enter.j c.requires.search c.in-Enter.is
    (read_at c.args.marks.now.items c.in-Enter.j c.index.result.now mark.Done h c.index.ensures c.in-Done.is)

pub returns-in_ok-push-in-Leave : goal.returns-in_ok-push-in-Leave
returns-in_ok-push-in-Leave c =
    let after : c.push.new.self.items ≡ c.args.order.now.items ++ c.in-Leave.j ∷ [] = search rules in
    step_leave _ _ _ _ _ c.in-Leave.j c.requires.search c.in-Leave.is c.push.new.self.items after

pub returns-in_ok-enter-in-New : goal.returns-in_ok-enter-in-New
returns-in_ok-enter-in-New c =
    let h = subst (λ t. number_of t < length c.args.marks.now.items) c.in-Enter.is
    (number_marked _ _ c.args.tasks.now.items _ c.args.task c.requires.search) in
    step_new _ _ _ _ _ c.in-Enter.j c.requires.search c.in-Enter.is
    (read_at c.args.marks.now.items c.in-Enter.j c.index.result.now mark.New h c.index.ensures c.in-New.is) c.requires.below
    c.mentions.result.now (sym c.mentions.ensures) c.enter.new.tasks.items c.in_ok-enter-in-New.ensures

use Rattle.std.proofs.Common.{rules, sym, ◌∙◌, ap, subst, ◌+◌, true≢false, length}
use Rattle.rng_rules.specs.plain.NamesMeetReach.{lists}
use Rattle.rng_rules.specs.views.NamesMeetSides.{MeetBetween}
use Rattle.rng_rules.proofs.NamesMeetSearch.{group_at, group_below, none_more}
use Rattle.rng_rules.proofs.names_meet_search.groups_meet.Goals as goal

pub group_meets-requires-clause-below : goal.group_meets-requires-clause-below
group_meets-requires-clause-below c =
    group_below (length c.args.rows.now.standing.items) (lists c.args.groups.now) c.loop-group.group-index c.as_slice.result.now c.requires.below
    (c.as_slice.ensures.value ∙ group_at c.args.groups.now c.loop-group.group-index c.group-item.result c.loop-group-test.true c.group-item.is)

pub returns-then-branch-clause-only : goal.returns-then-branch-clause-only
returns-then-branch-clause-only c = λ answer.
    let rows = c.args.rows.now in
    let group = group_at c.args.groups.now c.loop-group.group-index c.group-item.result c.loop-group-test.true c.group-item.is in (
      c.loop-group.group-index,
      subst (λ xs. MeetBetween rows.of rows.grammar.now (lists rows.above.items) xs xs) (c.as_slice.ensures.value ∙ group)
          (c.in_ok-group_meets.ensures.only (search rules)),
    )

pub loop-group-preserved : goal.loop-group-preserved
loop-group-preserved c =
    let rows = c.args.rows.now in
    let i = c.loop-group.group-index in
    let group = group_at c.args.groups.now i c.group-item.result c.loop-group-test.true c.group-item.is in record {
      search = c.in_ok-group_meets.ensures.search;
      round = ap (λ k. k + 1) c.loop-group.invariant.round;
      none = none_more i c.loop-group.invariant.none (λ m. true≢false (sym (c.in_ok-group_meets.ensures.all
          (subst (λ xs. MeetBetween rows.of rows.grammar.now (lists rows.above.items) xs xs) (sym (c.as_slice.ensures.value ∙ group)) m))
          ∙ c.if-branch.false));
    }

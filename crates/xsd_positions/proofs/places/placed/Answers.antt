use Rattle.std.proofs.Common.{◌≡◌, ◌∙◌, rules, length}
use Rattle.xsd_positions.proofs.Steps.{nothing_behind, no_place, is_placed, all_placed}
use Rattle.xsd_positions.proofs.places.placed.Goals as goal

pub returns-in_default-pop-clause-same : goal.returns-in_default-pop-clause-same
returns-in_default-pop-clause-same c =
    let h = c.in_default-pop.ensures.cases.0 in
    let none : length c.left.behind.items ≡ 0 = search rules in
    nothing_behind _ _ _ c.left.behind.items c.left.done.items c.in-Some.ensures.items none ∙ c.left.invariant.same

pub returns-then-not-branch-clause-same : goal.returns-then-not-branch-clause-same
returns-then-not-branch-clause-same c =
    let e : c.len.result ≡ length c.pop.new.self.items = search rules in
    no_place _ _ _ _ c.left.done.items c.in-Some.ensures.items _ _ _ c.in-Some-pop.ensures.items e _ _
    c.if-not-branch.true c.in_ok-put_behind.ensures
    ∙ c.left.invariant.same

pub left-preserved : goal.left-preserved
left-preserved c = record {
  within = search rules;
  same =
      let e : c.len.result ≡ length c.pop.new.self.items = search rules in
      is_placed _ _ _ _ c.left.done.items c.in-Some.ensures.items _ _ _ c.in-Some-pop.ensures.items e _ _ _
      c.if-not-branch.false c.in_ok-put_behind.ensures c.in_ok-push-2.ensures.items
      ∙ c.left.invariant.same;
}

pub returns-clause-same : goal.returns-clause-same
returns-clause-same c =
    let none : length c.left.left.items ≡ 0 = search rules in
    all_placed c.left.left.items _ c.left.done.items _ none c.reverse.ensures.items ∙ c.left.invariant.same

use Rattle.std.proofs.Common.{◌≡◌, ◌∙◌, inl, inr, ap, sym, subst, map, refl, rules}
use Rattle.rng_simple.specs.views.ExpansionOrder.{IsWholeOrder}
use Rattle.rng_simple.specs.plain.Graph.{IsFilledBy, IsDeepBy, IsOrderBy, Mentions, spot_depth}
use Rattle.rng_simple.specs.views.GraphView.{classes_of, graph_of}
use Rattle.rng_simple.specs.plain.Mentioned.{mentioned}
use Rattle.rng_simple.specs.plain.MemberDepths.{depth_in}
use Rattle.rng_simple.specs.plain.Search.{lists}
use Rattle.rng_simple.proofs.NumberedGraphs.ExpansionOrder.{keeps_breaks_not, mentions_below, answer_is_whole, answer_is_broken, order_keeps, depth_breaks}
use Rattle.rng_simple.proofs.graph.expansion.expansion_order.Goals as goal

-- the lists are those of the graph
listed : (c : goal.After-as_slice) → lists c.as_slice.result.now ≡ map mentioned (graph_of c.args.graph.now).bodies
listed c = ap lists c.as_slice.ensures.value ∙ c.in_ok-all.ensures

-- the order is whole
whole : (c : goal.After-as_slice-2) → IsWholeOrder (graph_of c.args.graph.now) c.in-Order.order.items
whole c =
    let all = lists c.as_slice.result.now in
    let is = ap lists c.as_slice.ensures.value ∙ c.in_ok-all.ensures in
    answer_is_whole c.args.graph.now all is c.in_ok-order.field-0 c.in-Order.order c.in_ok-order.ensures c.in-Order.is

pub sort-requires : goal.sort-requires
sort-requires c = mentions_below c.args.graph.now (lists c.as_slice.result.now) (listed c) c.requires

pub returns-in-Loop-clause-broken : goal.returns-in-Loop-clause-broken
returns-in-Loop-clause-broken c = λ s is.
    let all = lists c.as_slice.result.now in
    let lists_are = ap lists c.as_slice.ensures.value ∙ c.in_ok-all.ensures in
    inl (refl, answer_is_broken c.args.graph.now all lists_are c.in_ok-order.field-0 c.in-Loop.field-0 c.in_ok-order.ensures c.in-Loop.is s is)

pub depths-requires-clause-order : goal.depths-requires-clause-order
depths-requires-clause-order c = subst (IsOrderBy (Mentions (graph_of c.args.graph.now))) (sym c.as_slice-2.ensures.value) (whole c).order

pub returns-clause-order : goal.returns-clause-order
returns-clause-order c =
    let all = lists c.as_slice.result.now in
    let is = ap lists c.as_slice.ensures.value ∙ c.in_ok-all.ensures in
    answer_is_whole c.args.graph.now all is c.in_ok-order.field-0 c.in-Order.order c.in_ok-order.ensures c.in-Order.is

pub returns-then-branch-clause-broken : goal.returns-then-branch-clause-broken
returns-then-branch-clause-broken c = λ s is.
    let g = c.args.graph.now in
    let lists_are = ap lists c.as_slice.ensures.value ∙ c.in_ok-all.ensures in
    let order = answer_is_whole g (lists c.as_slice.result.now) lists_are c.in_ok-order.field-0 c.in-Order.order c.in_ok-order.ensures c.in-Order.is in
    let values = depth_in c.in_ok-depths.depths.items in
    let filled = subst (IsFilledBy (graph_of g) (spot_depth values) values) c.as_slice-2.ensures.value c.in_ok-depths.ensures in
    let deep = subst (λ table. IsDeepBy (classes_of g) (graph_of g) (depth_in table)) c.as_slice-3.ensures.value (c.in_ok-is_too_deep.ensures.deep (search rules)) in
    inr (refl, (depth_breaks g c.in-Order.order.items order s is values filled).1 deep, keeps_breaks_not (order_keeps g c.in-Order.order.items order s is))

pub returns-clause-kept : goal.returns-clause-kept
returns-clause-kept c = λ s is.
    let g = c.args.graph.now in
    let lists_are = ap lists c.as_slice.ensures.value ∙ c.in_ok-all.ensures in
    let order = answer_is_whole g (lists c.as_slice.result.now) lists_are c.in_ok-order.field-0 c.in-Order.order c.in_ok-order.ensures c.in-Order.is in
    let values = depth_in c.in_ok-depths.depths.items in
    let filled = subst (IsFilledBy (graph_of g) (spot_depth values) values) c.as_slice-2.ensures.value c.in_ok-depths.ensures in
    let flat =
    subst (λ table. IsDeepBy (classes_of g) (graph_of g) (depth_in table) → ⊥) c.as_slice-3.ensures.value (c.in_ok-is_too_deep.ensures.flat (search rules)) in
    (keeps_breaks_not (order_keeps g c.in-Order.order.items order s is), λ b. flat ((depth_breaks g c.in-Order.order.items order s is values filled).0 b))

use Rattle.std.proofs.Common.{rules, ◌≡◌, sym, subst, [], vec_items}
use Rattle.std.proofs.lemmas.List.{length-map, nil_from_length}
use Rattle.rng_simple.specs.plain.Search.{IsSearch, IsStart, lists}
use Rattle.rng_simple.proofs.NumberedGraphs.DepthFirstSearch.{started, all_ordered}
use Rattle.rng_simple.proofs.NumberedGraphs.SearchSteps.{step_goes}
use Rattle.rng_simple.proofs.graph.order.sort.Goals as goal

pub search-init : goal.search-init
search-init c =
    let s = subst (λ n. IsStart n c.in_ok-marks.marks.items c.in_ok-marks.tasks.items) (sym (length-map c.args.all.now vec_items)) c.in_ok-marks.ensures in
    subst (IsSearch (lists c.args.all.now) c.in_ok-marks.marks.items c.in_ok-marks.tasks.items) (sym c.new-order.ensures.items)
    (started (lists c.args.all.now) c.in_ok-marks.marks.items c.in_ok-marks.tasks.items s)

pub search-preserved : goal.search-preserved
search-preserved c = step_goes c.in_ok-j.ensures (search rules)

pub returns : goal.returns
returns c =
    let none : c.search.tasks.items ≡ [] = nil_from_length c.search.tasks.items (search rules) in
    let s = subst (λ ts. IsSearch (lists c.args.all.now) c.search.marks.items ts c.search.order.items) none c.search.invariant in
    (s.in_order, s.ordered_below, all_ordered (lists c.args.all.now) c.search.marks.items c.search.order.items s)

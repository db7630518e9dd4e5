use Rattle.std.proofs.Common.{◌≡◌, ap, ◌∙◌, ◌∷◌, [], map}
use Rattle.rng_simple.specs.plain.Search.{lists}
use Rattle.rng_simple.specs.plain.RowReach.{content_of, nexts}
use Rattle.rng_simple.proofs.Tables.RowReach.{reached_by, by_reached, nexts_below}
use Rattle.rng_simple.proofs.reaching.reached_rows.Goals as goal

pub returns-clause-reached : goal.returns-clause-reached
returns-clause-reached c = λ i.
    let rs = c.args.table.now.rows.items in
    let content = content_of c.args.contents.now in
    let all : lists c.as_slice-2.result.now ≡ map (nexts content) rs =
    ap lists c.as_slice-2.ensures.value ∙ c.in_ok-next.ensures ∙ ap (map (nexts content)) c.as_slice.ensures.value in
    let start : c.as_slice-3.result.now ≡ c.args.first ∷ [] = c.as_slice-3.ensures.value ∙ c.in_ok-start.ensures in
    let marks = c.in_ok-marks.ensures.reached i in (
      λ r. marks.0 (by_reached rs content (lists c.as_slice-2.result.now) all c.as_slice-3.result.now c.args.first start r),
      λ m. reached_by rs content (lists c.as_slice-2.result.now) all c.as_slice-3.result.now c.args.first start (marks.1 m),
    )

pub collect-requires-clause-next : goal.collect-requires-clause-next
collect-requires-clause-next c =
    let rs = c.args.table.now.rows.items in
    let content = content_of c.args.contents.now in
    let all : lists c.as_slice-2.result.now ≡ map (nexts content) rs =
    ap lists c.as_slice-2.ensures.value ∙ c.in_ok-next.ensures ∙ ap (map (nexts content)) c.as_slice.ensures.value in
    nexts_below rs content (lists c.as_slice-2.result.now) all c.requires.table.rows.falls c.requires.contents

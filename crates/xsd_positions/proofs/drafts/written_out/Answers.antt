use Rattle.std.proofs.Common.{◌≡◌, ◌∙◌, [], map, sym, ap}
use Rattle.std.specs.Vec.Iter.{into_iter_items}
use Rattle.xsd_regex.specs.views.Rows.{row_of}
use Rattle.xsd_positions.specs.views.Drafts.{draft_of}
use Rattle.xsd_positions.specs.plain.Drafts.{written, with_row}
use Rattle.xsd_positions.proofs.Steps.{stops, goes_on, all_gone, none_left, one_fewer}
use Rattle.xsd_positions.proofs.drafts.written_out.Goals as goal

pub returns-then-not-branch : goal.returns-then-not-branch
returns-then-not-branch c =
    stops with_row (row_of c.in-Some.row) (map row_of (into_iter_items c.next.new.self)) _ _ _ c.if-not-branch.true c.in_ok-put_row.ensures
    ∙ ap (λ rows. written (map row_of rows) (draft_of c.rows.draft)) (sym c.in-Some.ensures.steps.0)
    ∙ c.rows.invariant.same

pub rows-preserved : goal.rows-preserved
rows-preserved c = record {
  same =
      goes_on with_row (row_of c.in-Some.row) (map row_of (into_iter_items c.next.new.self)) _ _ _ c.if-not-branch.false c.in_ok-put_row.ensures
      ∙ ap (λ rows. written (map row_of rows) (draft_of c.rows.draft)) (sym c.in-Some.ensures.steps.0)
      ∙ c.rows.invariant.same;
  left = one_fewer c.in-Some.ensures.steps.0 c.in-Some.ensures.steps.1 c.rows.invariant.left;
}

pub returns : goal.returns
returns c =
    let none : into_iter_items c.rows.row-iterator ≡ [] = none_left _ (c.rows.invariant.left ∙ c.in-None.ensures.steps.0) in
    all_gone with_row (map row_of (into_iter_items c.rows.row-iterator)) _ (ap (map row_of) none) ∙ c.rows.invariant.same

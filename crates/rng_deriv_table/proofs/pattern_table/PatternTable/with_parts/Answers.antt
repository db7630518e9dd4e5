use Rattle.std.proofs.Common.{◌≡◌, ◌+◌, ◌-◌, arith, sym, ◌∙◌, subst}
use Rattle.std.proofs.lemmas.List.Elements.{All-weaker}
use Rattle.rng_deriv_table.specs.plain.Selecting.{AreClosedFrom, IsMarked}
use Rattle.rng_deriv_table.proofs.KnownFacts.{of_members}
use Rattle.rng_deriv_table.proofs.MarkedNumbers.{closed_at_end, closed_more}
use Rattle.rng_deriv_table.proofs.pattern_table.PatternTable.with_parts.Goals as goal

pub rows-init : goal.rows-init
rows-init c = record {
  within = omega (arith, c.len-left.ensures);
  long = c.mark_all.ensures.long ∙ omega (arith, c.in_ok-marks.ensures.len, c.len.ensures, c.in_ok-marks.marks.ok.0);
  marked = of_members (IsMarked c.mark_all.new.marks.items) c.args.numbers.now c.mark_all.ensures.done;
  closed = closed_at_end c.args.self.now c.mark_all.new.marks.items c.len-left.result (omega (arith, c.len-left.ensures));
}

pub rows-preserved-then-index : goal.rows-preserved-then-index
rows-preserved-then-index c =
    let within = c.rows.invariant.within in
    let positive = c.rows-test.true in
    let left : c.rows.left - 1 + 1 ≡ c.rows.left = omega (arith, positive) in
    record {
      within = omega (arith, within);
      long = c.mark_parts.ensures.marked.long ∙ c.rows.invariant.long;
      marked = All-weaker (λ n. IsMarked c.rows.marks.items n.0) (λ n. IsMarked c.mark_parts.new.marks.items n.0) (λ n. c.mark_parts.ensures.marked.stay n.0)
          c.args.numbers.now c.rows.invariant.marked;
      closed = closed_more c.args.self.now c.rows.marks.items c.mark_parts.new.marks.items (c.rows.left - 1) c.mark_parts.ensures.table
          (omega (arith, within, positive)) (subst (λ k. AreClosedFrom k c.args.self.now c.rows.marks.items) (sym left) c.rows.invariant.closed)
          c.mark_parts.ensures.marked;
    }

use Rattle.std.proofs.Common.{◌≡◌, ◌+◌, ◌-◌, ◌∙◌, [], List, false, true, arith, get_or, subst, sym}
use Rattle.std.proofs.lemmas.List.{get_or_default}
use Rattle.rng_deriv_table.specs.declared.pattern.PatternNumber.{PatternNumber}
use Rattle.rng_expected.specs.plain.Leaves.{AreFoundDownTo}
use Rattle.rng_expected.proofs.FoundLeaves.{all_found, none_found, none_more_found, one_more_found}
use Rattle.rng_expected.proofs.Marks.{none_marked}
use Rattle.rng_expected.proofs.leaves.leaves.Goals as goal

pub rows-init : goal.rows-init
rows-init c = record {
  within = omega (arith, c.len-left.ensures);
  long = c.mark_all.ensures.long ∙ omega (arith, c.in_ok-marks.ensures.len, c.len.ensures, c.in_ok-marks.marks.ok.0);
  found = λ t. subst (λ (fs : List PatternNumber). AreFoundDownTo c.args.standing t c.args.table.now c.args.patterns.now c.len-left.result c.mark_all.new.marks.items fs)
      (sym c.new-found.ensures.items)
      (subst (λ n. AreFoundDownTo c.args.standing t c.args.table.now c.args.patterns.now n c.mark_all.new.marks.items []) (sym c.len-left.ensures)
      (none_found c.args.standing t c.args.table.now c.args.patterns.now c.in_ok-marks.marks.items c.mark_all.new.marks.items
      (none_marked c.len.result c.in_ok-marks.marks.items (c.in_ok-marks.ensures.items_if_clones_equal (λ y e. e))) c.mark_all.ensures c.requires));
}

pub rows-preserved-then-not-index : goal.rows-preserved-then-not-index
rows-preserved-then-not-index c =
    let within = c.rows.invariant.within in
    let left : c.rows.left - 1 + 1 ≡ c.rows.left = omega (arith, c.rows-test.true) in
    record {
      within = omega (arith, within);
      long = c.rows.invariant.long;
      found = λ t. none_more_found c.args.standing t c.args.table.now c.args.patterns.now (c.rows.left - 1) c.rows.marks.items c.rows.found.items
          (λ m. let e = subst (λ v. v ≡ get_or c.rows.marks.items (c.rows.left - 1) v) c.if-not-index.true c.index.ensures in let no : false ≡ true = e ∙ m in absurd cc)
          (subst (λ n. AreFoundDownTo c.args.standing t c.args.table.now c.args.patterns.now n c.rows.marks.items c.rows.found.items) (sym left)
          (c.rows.invariant.found t));
    }

pub rows-preserved : goal.rows-preserved
rows-preserved c =
    let within = c.rows.invariant.within in
    let left : c.rows.left - 1 + 1 ≡ c.rows.left = omega (arith, c.rows-test.true) in
    record {
      within = omega (arith, within);
      long = c.in_ok-take_row.ensures.long ∙ c.rows.invariant.long;
      found = λ t. one_more_found c.args.standing t c.args.table.now c.args.patterns.now (c.rows.left - 1) c.rows.marks.items c.take_row.new.marks.items
          c.rows.found.items c.take_row.new.found.items
          (subst (λ n. AreFoundDownTo c.args.standing t c.args.table.now c.args.patterns.now n c.rows.marks.items c.rows.found.items) (sym left)
          (c.rows.invariant.found t))
          (get_or_default c.rows.marks.items (c.rows.left - 1) false true (omega (arith, within, c.rows.invariant.long, c.rows-test.true))
          ∙ sym (subst (λ v. v ≡ get_or c.rows.marks.items (c.rows.left - 1) v) c.if-not-index.false c.index.ensures))
          (c.in_ok-take_row.ensures.row t);
    }

pub returns : goal.returns
returns c = λ t.
    let zero : c.rows.left ≡ 0 = omega (arith, c.rows-test.false) in
    all_found c.args.standing t c.args.table.now c.args.patterns.now c.rows.marks.items c.rows.found.items
    (subst (λ n. AreFoundDownTo c.args.standing t c.args.table.now c.args.patterns.now n c.rows.marks.items c.rows.found.items) zero
    (c.rows.invariant.found t))

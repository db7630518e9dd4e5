use Rattle.std.proofs.Common.{rules, refl, ◌∙◌, ◌≤◌, arith, ap, sym, length}
use Rattle.rnc_text.proofs.FilePlaces.{next_column, next_line, reached, shorter}
use Rattle.rnc_text.proofs.placing.place_before.Goals as goal
use Rattle.rnc_text.proofs.placing.place_before.Goals.{else-characters-test, then-characters-test+in_default}

pub characters-preserved-then-ends_line : goal.characters-preserved-then-ends_line
characters-preserved-then-ends_line c =
    let less = shorter _ _ _ c.in-Some.ensures.bytes in
    record {
      text = search rules;
      within = omega (arith, less, c.characters.invariant.within);
      lines = omega (arith, less, c.characters.invariant.lines);
      columns = omega (arith, less, c.characters.invariant.within);
      reaches = next_line _ _ _ _ _ _ _ c.characters.invariant.text c.characters.invariant.reaches c.in-Some.ensures.chars c.characters-test.true
          (sym c.ends_line.ensures ∙ c.if-ends_line.true);
    }

pub characters-smaller : goal.characters-smaller
characters-smaller c = shorter _ _ _ c.in-Some.ensures.bytes

pub characters-preserved : goal.characters-preserved
characters-preserved c =
    let less = shorter _ _ _ c.in-Some.ensures.bytes in
    record {
      text = search rules;
      within = omega (arith, less, c.characters.invariant.within);
      lines = omega (arith, less, c.characters.invariant.lines);
      columns = omega (arith, less, c.characters.invariant.columns);
      reaches = next_column _ _ _ _ _ _ _ c.characters.invariant.text c.characters.invariant.reaches c.in-Some.ensures.chars c.characters-test.true
          (sym c.ends_line.ensures ∙ c.if-ends_line.false);
    }

pub returns : goal.returns
returns c =
    let small : length c.characters.rest.now ≤ c.args.left = elim c.characters-test.branch [
      | else-characters-test w ↦ omega (arith, w.characters-test.false)
      | then-characters-test+in_default w ↦ omega (arith, ap length w.in_default.ensures.bytes)
    ] in
    reached _ _ _ _ _ _ c.utf8.text c.characters.invariant.text c.characters.invariant.reaches small refl

use Rattle.std.proofs.Common.{rules, arith, inl, inr}
use Rattle.rnc_text.proofs.HexadecimalSteps.{closes, no_digit, goes_on, most_next, IsNoEnd}
use Rattle.rnc_text.proofs.hexadecimal.hexadecimal.Goals as goal
use Rattle.rnc_text.proofs.hexadecimal.hexadecimal.Goals.{else-character-eq125-via-then-character-eq125+else-count-gt0}
use Rattle.rnc_text.proofs.hexadecimal.hexadecimal.Goals.{else-character-eq125-via-else-character-eq125}

pub returns-then-count-gt0 : goal.returns-then-count-gt0
returns-then-count-gt0 c =
    closes c.loop-count.count _ c.in_ok-character.character _ _ _ (omega arith) (search rules)
    (omega arith) c.in_ok-character.ensures.chars c.loop-count.invariant.same

pub returns-in_err-number : goal.returns-in_err-number
returns-in_err-number c =
    let end : IsNoEnd c.in_ok-character.character c.loop-count.count =
    elim c.else-character-eq125.branch [
      | else-character-eq125-via-then-character-eq125+else-count-gt0 w ↦
          inr (omega arith)
      | else-character-eq125-via-else-character-eq125 w ↦ inl w.if-character-eq125.false
    ] in
    rw c.from_residual-in_err-number.ensures
    (no_digit c.loop-count.count _ c.in_ok-character.character _ _ _
    (omega arith) end c.in_err-number.ensures.value c.in_ok-character.ensures.chars c.loop-count.invariant.same)

pub loop-count-preserved : goal.loop-count-preserved
loop-count-preserved c =
    let end : IsNoEnd c.in_ok-character.character c.loop-count.count =
    elim c.else-character-eq125.branch [
      | else-character-eq125-via-then-character-eq125+else-count-gt0 w ↦
          inr (omega arith)
      | else-character-eq125-via-else-character-eq125 w ↦ inl w.if-character-eq125.false
    ] in
    record {
      text = search rules;
      within = omega arith;
      fits = omega (arith, most_next c.loop-count.count, c.in_ok-number.ensures.value);
      same = goes_on c.loop-count.count _ c.in_ok-character.character c.in_ok-number.field-0 _ _ _
          (omega arith) end c.in_ok-number.ensures.value.0 c.in_ok-number.ensures.value.1 c.in_ok-character.ensures.chars c.loop-count.invariant.same;
    }

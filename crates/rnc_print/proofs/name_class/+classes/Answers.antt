use Rattle.std.proofs.Common.{◌≡◌, ◌∙◌, ◌++◌, ℕ, List, ap, arith}
use Rattle.std.proofs.lemmas.Result.{on_ok_weaker}
use Rattle.rnc_print.proofs.ClassTexts.{choice_written}
use Rattle.rnc_print.proofs.name_class.+classes.Goals as goal

-- what is written, and then what is written after it
behind : {was now all : List ℕ} (w : List ℕ) → now ≡ was ++ w → was ≡ all → now ≡ all ++ w
behind w e f = e ∙ ap (λ x. x ++ w) f

pub write_class-returns-in_ok-extend_from_slice-in-Choice : goal.write_class-returns-in_ok-extend_from_slice-in-Choice
write_class-returns-in_ok-extend_from_slice-in-Choice t c =
    on_ok_weaker c.write_part-in-Choice-2.result
    (λ e. behind _ e (behind _ c.in_ok-extend_from_slice-in-Choice.ensures.items c.in_ok-write_part-in-Choice.ensures)
    ∙ choice_written _ _ c.as_slice.result.now _ _ _ _ _ _ c.in-Choice.is c.as_slice.ensures.value (omega (arith, c.in-len2.len_at_least))
    (omega (arith, c.in-len2.len_below)) c.left-item.is c.right-item.is c.is_except.ensures c.is_joined-in-Choice.ensures)
    c.write_part-in-Choice-2.ensures

use Rattle.std.proofs.lemmas.Result.{IfOk-weaker}
use Rattle.rng_deriv_table.specs.plain.Kept.{by_members, unnumbered}
use Rattle.rng_deriv_table.proofs.pattern_table.PatternTable.take_row.Goals as goal

pub returns-in-Choice-clause-taken : goal.returns-in-Choice-clause-taken
returns-in-Choice-clause-taken c =
    IfOk-weaker c.take_choice.result _ _ (λ n h. by_members c.in-Choice.first c.in-Choice.second c.in-Choice.is h) c.take_choice.ensures.taken

pub returns-in-Choice-2-clause-taken : goal.returns-in-Choice-2-clause-taken
returns-in-Choice-2-clause-taken c =
    IfOk-weaker c.not_allowed.result _ _ (λ n h. unnumbered c.in-Choice-2.field-0 c.in-Choice-2.field-1 c.in-Choice-2.is (c.is_own.ensures.no c.if-is_own.false))
    c.not_allowed.ensures.tree

use Rattle.std.proofs.Common.{◌∙◌, sym, true≢false}
use Rattle.std.proofs.lemmas.Result.{IfOk-weaker as if_ok}
use Rattle.rng_deriv_texts.proofs.RestsOfWays.{leaf_not_taken, leaf_taken}
use Rattle.rng_deriv_texts.proofs.after.left_of_leaf.Goals as goal

pub returns-then-not-taken-clause-left : goal.returns-then-not-taken-clause-left
returns-then-not-taken-clause-left c =
    if_ok c.not_allowed.result _ _ (λ n h t first leaf tells. leaf_not_taken t c.args.table.now c.not_allowed.new.self c.args.leaf n h.inside first leaf
    (h.is t) (λ o d. true≢false (sym ((tells leaf o).1 d) ∙ c.if-not-taken.true))) c.not_allowed.ensures.tree

pub returns-clause-left : goal.returns-clause-left
returns-clause-left c =
    if_ok c.rest_of_leaf.result _ _ (λ n h t first leaf tells. leaf_taken t c.args.table.now c.rest_of_leaf.new.table c.args.leaf n h.inside first leaf
    (h.is t) (λ o. (tells leaf o).0 c.if-not-taken.false)) c.rest_of_leaf.ensures.tree

use Rattle.std.proofs.Common.{refl, rules, string_bytes, subst}
use Rattle.std.specs.Prelude.{IfSome}
use Rattle.std.proofs.lemmas.Result.{IfOk-weaker as if_ok}
use Rattle.rng_deriv_ways.specs.views.Plans.{TakesOnly}
use Rattle.rng_deriv_ways.proofs.ClosedTags.{both_ok}
use Rattle.rng_deriv_texts.proofs.NarrowedWays.{other_added, text_added}
use Rattle.rng_deriv_texts.proofs.value_index.add_to_index.Goals as goal

pub returns-in_default : goal.returns-in_default
returns-in_default c = λ t ns ws only was. other_added t ns ws c.args.way c.args.index.now _ was (search rules) refl

pub returns : goal.returns
returns c =
    if_ok c.keep_for.result _ _ (λ n h. λ t ns ws only was. text_added t ns ws c.args.way c.args.index.now _ was c.in-Some.text
    (subst (λ o. IfSome o (λ text. TakesOnly t ns (string_bytes text) c.args.way.leaf)) c.in-Some.is only) refl h.0 h.1.0 h.1.1)
    (both_ok c.keep_for.result _ _ c.keep_for.ensures.within (both_ok c.keep_for.result _ _ c.keep_for.ensures.stay c.keep_for.ensures.own))

use Rattle.std.proofs.Common.{◌∙◌, ◌<◌, Some, sym, ap, arith, rules}
use Rattle.std.proofs.lemmas.Option.{slice_get_within, same_Some}
use Rattle.rng_deriv_texts.proofs.leaf_tests.list_body.Goals as goal

pub returns-in-List-clause-inside : goal.returns-in-List-clause-inside
returns-in-List-clause-inside c =
    let found = sym c.in_ok-row.ensures.value in
    let within = slice_get_within c.args.grammar.now.patterns c.args.position.0 _ found in
    let below : c.in-List.body.0 < c.args.position.0 = search rules in
    omega (arith, within, below)

pub returns-in-List-clause-found : goal.returns-in-List-clause-found
returns-in-List-clause-found c = sym c.in_ok-row.ensures.value ∙ ap Some c.in-List.is

pub returns-in_default-row-clause-none : goal.returns-in_default-row-clause-none
returns-in_default-row-clause-none c = λ body e f. c.in_default-row.not-List body (same_Some _ _ (c.in_ok-row.ensures.value ∙ f))

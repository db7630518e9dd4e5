use Rattle.rng_deriv_table.specs.views.Trees.{tree_of}
use Rattle.rng_deriv_ways.specs.declared.way.Place.TheVariants as places
use Rattle.rng_deriv_texts.proofs.RestsOfWays.{ways_for_text}
use Rattle.rng_deriv_texts.proofs.SettledRests.{if_some}
use Rattle.rng_deriv_texts.proofs.WholeStrings.{whole_string}
use Rattle.rng_deriv_texts.proofs.settled.string_taken.Goals as goal

pub returns-then-is_leaf_for : goal.returns-then-is_leaf_for
returns-then-is_leaf_for c =
    let leaf = c.is_leaf_for.ensures c.if-is_leaf_for.true c.args.context.now.grammar.now in
    if_some c.text_leaf_takes.result _ _ (λ b h o. h places.Content leaf o) c.text_leaf_takes.ensures

pub taken_by_some-requires-clause-inside : goal.taken_by_some-requires-clause-inside
taken_by_some-requires-clause-inside c = (c.requires.known.texts c.args.number c.in_ok-ways.ways.now c.in_ok-ways.ensures).ways.inside

pub returns : goal.returns
returns c =
    let t0 = c.args.context.now.grammar.now in
    let ns = c.args.table.now in
    let ws = c.in_ok-ways.ways.now in
    let p = tree_of t0 ns c.args.number.0 in
    let all = (c.requires.known.texts c.args.number ws c.in_ok-ways.ensures).ways in
    if_some c.taken_by_some.result _ _ (λ b h. whole_string t0 ns c.args.text p ws b (ways_for_text t0 ns places.Content c.args.text p ws all) h)
    c.taken_by_some.ensures

use Rattle.std.proofs.Common.{◌≡◌, ◌∙◌, ◌-◌, ◌∷◌, length, take, drop, map, ap}
use Rattle.rng_model.proofs.Places.{first_and_rest}
use Rattle.rng_model.specs.documents.EventViews.{attribute_of}
use Rattle.rng_model.specs.matching.GrammarMatching.{reading_of}
use Rattle.rng_model.specs.names.NameViews.{name_of}
use Rattle.rng_model.specs.simple.Table.{tree_at}
use Rattle.rng_deriv_laws.specs.plain.Derivatives.{bodies_of}
use Rattle.rng_deriv_laws.specs.plain.States.{enter}
use Rattle.rng_plain_matcher.specs.views.States.{state_of}
use Rattle.rng_plain_matcher.specs.views.Trees.{tree_of}
use Rattle.rng_plain_matcher.specs.views.Ways.{way_of}
use Rattle.rng_plain_matcher.proofs.StartedStates.{one_opened}
use Rattle.rng_plain_matcher.proofs.state.+enter.Goals as goal

pub returns : goal.returns
returns t c =
    let g = reading_of c.args.context.now.grammar.now in
    let xs = map attribute_of c.args.attrs.now in
    let others = take (length c.args.ways.now - 1) (drop 1 c.args.ways.now) in
    let whole : c.way-item.result ∷ others ≡ c.args.ways.now = first_and_rest c.args.ways.now c.way-item.result c.in-len1-up.len_at_least c.way-item.is in
    c.in_ok-all.ensures
    ∙ one_opened g (name_of c.args.name.now) xs (tree_of c.way-item.result.leaf.now) (tree_of c.way-item.result.rest) (map way_of others)
    (state_of c.args.outer.now) (tree_at c.args.context.now.grammar.now.patterns c.in-Some.body) (state_of c.in_ok-inside.inside)
    (state_of c.in_ok-others.others) c.in-Some.ensures c.in_ok-inside.ensures c.in_ok-others.ensures
    ∙ ap (λ ws. enter g xs (bodies_of g (name_of c.args.name.now) (map way_of ws)) (state_of c.args.outer.now)) whole

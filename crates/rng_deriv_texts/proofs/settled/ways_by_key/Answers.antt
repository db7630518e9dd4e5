use Rattle.std.proofs.Common.{◌∙◌, refl, rules}
use Rattle.rng_model.specs.names.NameViews.{name_of}
use Rattle.rng_deriv_ways.specs.views.KnownWays.{HasForKey}
use Rattle.rng_deriv_ways.specs.declared.way.Kind.TheVariants as kinds
use Rattle.rng_deriv_ways.proofs.LikeAttributes.{ways_alike}
use Rattle.rng_deriv_texts.proofs.SettledRests.{if_some}
use Rattle.rng_deriv_texts.proofs.settled.ways_by_key.Goals as goal

pub returns : goal.returns
returns c = λ ns all.
    let t0 = c.args.context.now.grammar.now in
    let keys = c.args.context.now.keys.now in
    let own = c.in_ok-own.own.now in
    let at : HasForKey c.args.known.now.attributes c.key-key.result own = search rules in
    if_some c.known_ways.result _ _ (λ ws h.
    ways_alike t0 keys all.serve (name_of c.name-representative.result.now) (name_of c.args.name.now) (c.name-representative.ensures.own
    ∙ c.key-key.ensures.key) ns c.args.number.0 ws.now c.name-representative.result c.args.name refl refl
    (all.attributes c.key-key.result (kinds.Attribute c.name-representative.result) c.name-representative.ensures.name own at c.args.number ws.now h).ways)
    c.known_ways.ensures

use Rattle.std.proofs.Common.{sym, subst, rules}
use Rattle.rng_deriv_table.specs.views.Trees.{tree_of}
use Rattle.rng_deriv_texts.specs.plain.After.{AreWaysFor}
use Rattle.rng_deriv_texts.proofs.RestsOfWays.{ways_for_attribute, ways_for_text}
use Rattle.rng_deriv_texts.proofs.SettledRests.{if_some}
use Rattle.rng_deriv_texts.proofs.settled.ways_known.Goals as goal

pub returns-in-Text : goal.returns-in-Text
returns-in-Text c = λ ns all.
    let t0 = c.args.context.now.grammar.now in
    let p = tree_of t0 ns c.args.number.0 in
    if_some c.known_ways.result _ _ (λ ws h. subst (λ first. AreWaysFor t0 ns first p ws.now) (sym c.in-Text.is)
    (ways_for_text t0 ns c.in-Text.field-0 c.in-Text.field-1 p ws.now (all.texts c.args.number ws.now h).ways)) c.known_ways.ensures

pub returns-in-Attribute : goal.returns-in-Attribute
returns-in-Attribute c = λ ns all.
    let t0 = c.args.context.now.grammar.now in
    let p = tree_of t0 ns c.args.number.0 in
    if_some c.attribute_ways_known.result _ _ (λ ws h. subst (λ first. AreWaysFor t0 ns first p ws.now) (sym c.in-Attribute.is)
    (ways_for_attribute t0 ns c.in-Attribute.attr _ p ws.now (search rules) h)) (c.attribute_ways_known.ensures ns all)

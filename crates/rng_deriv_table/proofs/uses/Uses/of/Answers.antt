use Rattle.std.proofs.Common.{◌<◌, ap, arith, length, slice_set, subst}
use Rattle.rng_model.specs.declared.simple.PatternId.{PatternId}
use Rattle.rng_deriv_table.specs.declared.uses.Use.TheVariants as uses
use Rattle.rng_deriv_table.specs.plain.AskedFor.{IsOwn}
use Rattle.rng_deriv_table.proofs.GrammarUses.{all_asked, own_set, stays_set}
use Rattle.rng_deriv_table.proofs.uses.Uses.of.Goals as goal

pub returns-clause-own : goal.returns-clause-own
returns-clause-own c =
    let t = c.args.grammar.now in
    let us = c.add_bodies.new.uses.items in
    let start = c.start-start.result.0 in
    let there = c.start-start.ensures.valid.start in
    let same = ap (λ (id : PatternId). id.0) c.start-start.ensures.start in
    let long = c.in_ok-by_position.ensures.long in
    let still = c.in_ok-add_bodies.ensures.long in
    let inside : start < length us = omega (arith, there, same, long, still) in
    all_asked t (slice_set us start uses.Own)
    (subst (λ (id : PatternId). IsOwn (slice_set us start uses.Own) id.0) c.start-start.ensures.start (own_set us start inside))
    (λ i e found. stays_set us start e.1.0 (c.in_ok-add_bodies.ensures.bodies i e found))
    (λ i k p found part. stays_set us start k (c.in_ok-add_bodies.ensures.stays k (c.in_ok-by_position.ensures.parts i k p found part)))

use Rattle.std.proofs.Common.{◌≡◌, ◌∙◌, ◌+◌, ◌++◌, ◌∷◌, [], suc, List, get_or, refl, sym, ap, subst, arith, take}
use Rattle.std.proofs.Math.Seq.{take-suc}
use Rattle.rng_deriv_ways.specs.declared.way.LeafWay.{LeafWay}
use Rattle.rng_deriv_texts.specs.plain.Settling.{AreLeft}
use Rattle.rng_deriv_texts.proofs.RestsOfWays.{no_rests}
use Rattle.rng_deriv_texts.proofs.SettledRests.{covered_more, told_more}
use Rattle.rng_deriv_texts.proofs.settled.only_rest.Goals as goal

pub ways-init : goal.ways-init
ways-init c = no_rests c.args.context.now.grammar.now c.args.table.now c.args.first [] refl

pub takes_by_known-told-requires-clause-inside : goal.takes_by_known-told-requires-clause-inside
takes_by_known-told-requires-clause-inside c =
    let d0 : LeafWay = record { leaf = record { 0 = 0 }; rest = record { 0 = 0 } } in
    (c.requires.inside c.ways.way-index d0 c.ways-test.true).0

pub ways-preserved : goal.ways-preserved
ways-preserved c =
    let t0 = c.args.context.now.grammar.now in
    let ns = c.args.table.now in
    let ws : List LeafWay = c.args.ways.now in
    let i = c.ways.way-index in
    let d : LeafWay = record { leaf = record { 0 = 0 }; rest = record { 0 = 0 } } in
    let next : i + 1 ≡ suc i = omega arith in
    let cut : take (i + 1) ws ≡ take i ws ++ get_or ws i d ∷ [] = ap (λ k. take k ws) next ∙ take-suc ws i d c.ways-test.true in
    let inside = c.requires.inside i d c.ways-test.true in
    subst (λ (vs : List LeafWay). AreLeft t0 ns c.args.first vs c.with_told-rest.result) (sym cut)
    (subst (AreLeft t0 ns c.args.first (take i ws ++ get_or ws i d ∷ [])) (sym c.with_told-rest.ensures)
    (told_more t0 ns c.args.first (take i ws) (get_or ws i d) inside c.takes_by_known-told.result c.ways.rest c.takes_by_known-told.ensures c.ways.invariant))

pub ways-preserved-then-is_covered : goal.ways-preserved-then-is_covered
ways-preserved-then-is_covered c =
    let t0 = c.args.context.now.grammar.now in
    let ns = c.args.table.now in
    let ws : List LeafWay = c.args.ways.now in
    let i = c.ways.way-index in
    let d : LeafWay = record { leaf = record { 0 = 0 }; rest = record { 0 = 0 } } in
    let next : i + 1 ≡ suc i = omega arith in
    let cut : take (i + 1) ws ≡ take i ws ++ get_or ws i d ∷ [] = ap (λ k. take k ws) next ∙ take-suc ws i d c.ways-test.true in
    let inside = c.requires.inside i d c.ways-test.true in
    subst (λ (vs : List LeafWay). AreLeft t0 ns c.args.first vs c.ways.rest) (sym cut)
    (covered_more t0 ns c.args.first (take i ws) (get_or ws i d) inside c.ways.rest (c.is_covered.ensures c.if-is_covered.true) c.ways.invariant)

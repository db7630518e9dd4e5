use Rattle.std.proofs.Common.{◌≡◌, ◌∙◌, ◌+◌, ◌++◌, ◌∷◌, [], List, ap, arith, get_or, rules, subst, suc, sym, take}
use Rattle.std.proofs.Math.Seq.{take-suc}
use Rattle.rng_deriv_ways.specs.views.Plans.{IsIndex}
use Rattle.rng_deriv_ways.specs.declared.way.LeafWay.{LeafWay}
use Rattle.rng_deriv_texts.proofs.NarrowedWays.{no_index}
use Rattle.rng_deriv_texts.proofs.value_index.index_of.Goals as goal

pub ways-init : goal.ways-init
ways-init c = no_index c.args.context.now.grammar.now c.args.table.now _ (search rules) (search rules)

pub only_text-requires-clause-inside : goal.only_text-requires-clause-inside
only_text-requires-clause-inside c =
    let d : LeafWay = record { leaf = record { 0 = 0 }; rest = record { 0 = 0 } } in
    (c.requires.inside c.ways.way-index d c.ways-test.true).0

pub ways-preserved : goal.ways-preserved
ways-preserved c =
    let t0 = c.args.context.now.grammar.now in
    let ws : List LeafWay = c.args.ways.now in
    let i = c.ways.way-index in
    let d : LeafWay = record { leaf = record { 0 = 0 }; rest = record { 0 = 0 } } in
    let next : i + 1 ≡ suc i = omega arith in
    let cut : take (i + 1) ws ≡ take i ws ++ get_or ws i d ∷ [] = ap (λ k. take k ws) next ∙ take-suc ws i d c.ways-test.true in
    subst (λ (vs : List LeafWay). IsIndex t0 c.args.table.now vs c.add_to_index.new.index) (sym cut)
    (c.in_ok-add_to_index.ensures t0 c.args.table.now (take i ws) c.in_ok-text.ensures c.ways.invariant)

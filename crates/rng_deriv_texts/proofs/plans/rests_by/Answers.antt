use Rattle.std.proofs.Common.{◌≡◌, ◌∙◌, ◌+◌, ◌++◌, ◌∷◌, [], List, ap, arith, get_or, refl, rules, subst, suc, take}
use Rattle.std.proofs.Math.Seq.{take-suc}
use Rattle.rng_deriv_ways.specs.views.Plans.{IsTold, no_ways, one_left_out, one_taken}
use Rattle.rng_deriv_ways.specs.declared.way.LeafWay.{LeafWay}
use Rattle.rng_deriv_texts.proofs.plans.rests_by.Goals as goal

pub ways-init : goal.ways-init
ways-init c = no_ways refl c.new-rests.ensures.items

pub ways-preserved : goal.ways-preserved
ways-preserved c =
    let ws : List LeafWay = c.args.ways.now in
    let i = c.ways.way-index in
    let d : LeafWay = record { leaf = record { 0 = 0 }; rest = record { 0 = 0 } } in
    let next : i + 1 ≡ suc i = omega arith in
    let cut : take (i + 1) ws ≡ take i ws ++ get_or ws i d ∷ [] = ap (λ k. take k ws) next ∙ take-suc ws i d c.ways-test.true in
    one_taken (get_or ws i d) c.ways.invariant (subst (IsTold c.args.leaves.now c.args.taken.now _) c.if-not-took.false c.in-Some.ensures) cut (search rules)

pub ways-preserved-then-not-took : goal.ways-preserved-then-not-took
ways-preserved-then-not-took c =
    let ws : List LeafWay = c.args.ways.now in
    let i = c.ways.way-index in
    let d : LeafWay = record { leaf = record { 0 = 0 }; rest = record { 0 = 0 } } in
    let next : i + 1 ≡ suc i = omega arith in
    let cut : take (i + 1) ws ≡ take i ws ++ get_or ws i d ∷ [] = ap (λ k. take k ws) next ∙ take-suc ws i d c.ways-test.true in
    one_left_out (get_or ws i d) c.ways.invariant (subst (IsTold c.args.leaves.now c.args.taken.now _) c.if-not-took.true c.in-Some.ensures) cut

use Rattle.std.proofs.Common.{◌≡◌, ◌<◌, ◌++◌, ◌∷◌, [], zero, suc, All, List, arith, length, rules, subst, sym}
use Rattle.std.proofs.lemmas.List.Elements.{All-append}
use Rattle.rng_deriv_table.specs.views.Node.{Node}
use Rattle.rng_deriv_table.specs.declared.pattern.PatternNumber.{PatternNumber}
use Rattle.rng_deriv_ways.specs.declared.way.LeafWay.{LeafWay}
use Rattle.rng_deriv_texts.proofs.plans.different_leaves.Goals as goal

abbrev Inside : List Node → PatternNumber → Type 0
Inside ns m = m.0 < length ns

none_inside : (ns : List Node) (ms : List PatternNumber) → ms ≡ [] → All (Inside ns) ms
none_inside ns ms e = subst (All (Inside ns)) (sym e) (λ i d h. absurd (omega (arith, h)))

only : (ns : List Node) (m : PatternNumber) → m.0 < length ns → All (Inside ns) (m ∷ [])
only ns m h (zero) d l = h
only ns m h (suc k) d l = absurd (omega (arith, l))

pub ways-init : goal.ways-init
ways-init c = λ ns inside. none_inside ns _ c.new-leaves.ensures.items

pub returns-then-len-ge-MOST_LEAVES : goal.returns-then-len-ge-MOST_LEAVES
returns-then-len-ge-MOST_LEAVES c = λ ns inside. none_inside ns _ c.new.ensures.items

pub ways-preserved : goal.ways-preserved
ways-preserved c = λ ns inside.
    let d : LeafWay = record { leaf = record { 0 = 0 }; rest = record { 0 = 0 } } in
    let there = (inside c.ways.way-index d c.ways-test.true).0 in
    let cut : c.push.new.self.items ≡ c.ways.leaves.items ++ _ ∷ [] = search rules in
    subst (All (Inside ns)) (sym cut) (All-append (Inside ns) c.ways.leaves.items _ (c.ways.invariant ns inside) (only ns _ there))

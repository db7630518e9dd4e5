use Rattle.std.proofs.Common.{◌+◌, map, subst, sym, take}
use Rattle.std.proofs.lemmas.List.{take_all}
use Rattle.rng_deriv_table.specs.views.Trees.{choice_over, tree_of}
use Rattle.rng_deriv_table.specs.declared.pattern.PatternNumber.{PatternNumber}
use Rattle.rng_deriv_ways.specs.plain.Takers.{IsSpanOf}
use Rattle.rng_deriv_ways.proofs.AttributeTakers.{span_of_more}
use Rattle.rng_deriv_ways.proofs.spans.span_of_members.Goals as goal

pub members-init : goal.members-init
members-init c = λ t ns all q h. absurd h

pub members-preserved : goal.members-preserved
members-preserved c = λ t ns all.
    let ms = c.args.members.now in
    let i = c.members.member-index in
    let none : PatternNumber = record { 0 = 0 } in
    subst (IsSpanOf t (choice_over (tree_of t ns) (map (λ (m : PatternNumber). m.0) (take (i + 1) ms)))) (sym c.joined-all.ensures)
    (span_of_more t (tree_of t ns) ms i none c.members.all c.span_at.result c.members-test.true
    (c.members.invariant t ns all) (c.span_at.ensures t ns all))

pub returns : goal.returns
returns c = λ t ns all.
    subst (λ ms. IsSpanOf t (choice_over (tree_of t ns) (map (λ (m : PatternNumber). m.0) ms)) c.members.all)
    (take_all c.members.member-index c.args.members.now c.members-test.false) (c.members.invariant t ns all)

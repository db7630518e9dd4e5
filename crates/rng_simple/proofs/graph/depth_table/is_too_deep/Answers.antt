use Rattle.std.proofs.Common.{◌≡◌, ◌<◌, ◌∙◌, ap, length, get_or, arith, rules, refl}
use Rattle.rng_model.proofs.Places.{read_at}
use Rattle.rng_simple.specs.plain.MemberDepths.{depth_in}
use Rattle.rng_simple.proofs.NumberedGraphs.DepthTable.{element_is_deep, none_is_deep, next_is_flat}
use Rattle.rng_simple.proofs.graph.depth_table.is_too_deep.Goals as goal

pub returns-then-branch-clause-deep : goal.returns-then-branch-clause-deep
returns-then-branch-clause-deep c = λ yes.
    let e = c.element-item.result in
    let i = c.elements.element-index in
    let items = c.args.graph.now.elements.items in
    let same : e ≡ get_or items i e = c.element-item.is ∙ ap (λ xs. get_or xs i e) c.deref-element-items.ensures.value in
    let inside : i < length items = omega (arith, ap length c.deref-element-items.ensures.value) in
    element_is_deep c.args.graph.now c.args.definitions.now i e (read_at items i e e inside same refl) (c.in_ok-is_deep_element.ensures.deep (search rules))

pub elements-preserved : goal.elements-preserved
elements-preserved c =
    let e = c.element-item.result in
    let i = c.elements.element-index in
    let items = c.args.graph.now.elements.items in
    let same : e ≡ get_or items i e = c.element-item.is ∙ ap (λ xs. get_or xs i e) c.deref-element-items.ensures.value in
    let inside : i < length items = omega (arith, ap length c.deref-element-items.ensures.value) in
    next_is_flat c.args.graph.now c.args.definitions.now i e inside same (c.in_ok-is_deep_element.ensures.flat (search rules)) c.elements.invariant

pub returns-clause-flat : goal.returns-clause-flat
returns-clause-flat c = λ no_more.
    let items = c.args.graph.now.elements.items in
    let start : 1000 < depth_in c.args.definitions.now 0 → ⊥ = λ h. omega (arith, h, c.definition_depth.ensures) in
    none_is_deep c.args.graph.now c.args.definitions.now start
    (λ k e h is. c.elements.invariant k e (omega (arith, h, ap length c.deref-element-items.ensures.value)) is)

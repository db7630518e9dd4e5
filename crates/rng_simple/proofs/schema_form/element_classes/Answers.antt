use Rattle.std.proofs.Common.{◌<◌, ◌++◌, ◌∷◌, [], ap, sym, ◌∙◌, map, get_or, length, arith}
use Rattle.std.proofs.lemmas.List.{map_push}
use Rattle.rng_model.proofs.Places.{one_more_mapped}
use Rattle.rng_model.specs.names.NameViews.{class_of}
use Rattle.rng_simple.proofs.schema_form.element_classes.Goals as goal

pub elements-preserved : goal.elements-preserved
elements-preserved c =
    let elements = c.args.graph.now.elements.items in
    let n = c.elements.element-index in
    let element = c.element-item.result in
    let inside : n < length elements = omega (arith, c.elements-test.true) in
    let item = c.element-item.is ∙ ap (λ xs. get_or xs n element) c.deref-element-items.ensures.value in
    ap (map (λ k. class_of k.now)) c.in_ok-push.ensures.items ∙ map_push (λ k. class_of k.now) c.elements.classes.items element.class
    ∙ ap (λ xs. xs ++ class_of element.class.now ∷ []) c.elements.invariant
    ∙ sym (one_more_mapped (λ e. class_of e.class.now) elements n element inside item)

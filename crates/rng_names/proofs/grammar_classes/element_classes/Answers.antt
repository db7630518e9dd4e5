use Rattle.std.proofs.Common.{◌≡◌, ◌∷◌, ◌++◌, [], ap, sym, ◌∙◌, length, map, take, None, Some, slice_get, rules}
use Rattle.std.proofs.lemmas.List.{map_push, length-map}
use Rattle.rng_model.proofs.MadeLists.{made_more, made_all}
use Rattle.rng_names.specs.views.GrammarClasses.{element_class, seen_class}
use Rattle.rng_names.proofs.grammar_classes.element_classes.Goals as goal

pub elements-preserved : goal.elements-preserved
elements-preserved c =
    let rows = c.args.grammar.now.elements in
    let all = c.elements.all.items in
    let at : Some c.in-Some.element.now ≡ slice_get rows (length all) = search rules in
    let more : map seen_class c.push.new.self.items ≡ map seen_class all ++ element_class c.in-Some.element.now ∷ [] =
    ap (map seen_class) c.in_ok-push.ensures.items ∙ map_push seen_class all _ in
    made_more element_class rows (length all) c.in-Some.element.now (map seen_class all) (map seen_class c.push.new.self.items) at
    (sym (length-map all seen_class)) (c.elements.invariant ∙ ap (λ k. take k (map element_class rows)) (length-map all seen_class)) more

pub returns : goal.returns
returns c =
    let all = c.elements.all.items in
    let at : None ≡ slice_get c.args.grammar.now.elements (length all) = search rules in
    made_all element_class c.args.grammar.now.elements (length all) (map seen_class all) at (sym (length-map all seen_class)) c.elements.invariant

use Rattle.std.proofs.Common.{◌≡◌, ◌∷◌, ◌++◌, [], ap, sym, ◌∙◌, length, map, take, None, Some, slice_get, rules}
use Rattle.std.proofs.lemmas.List.{map_push, length-map}
use Rattle.rng_model.proofs.MadeLists.{made_more, made_all}
use Rattle.rng_names.specs.views.GrammarClasses.{attribute_class, seen_class}
use Rattle.rng_names.proofs.grammar_classes.attribute_classes.Goals as goal

pub patterns-preserved : goal.patterns-preserved
patterns-preserved c =
    let rows = c.args.grammar.now.patterns in
    let all = c.patterns.all.items in
    let at : Some c.in-Some.pattern.now ≡ slice_get rows (length all) = search rules in
    let more : map seen_class c.push.new.self.items ≡ map seen_class all ++ attribute_class c.in-Some.pattern.now ∷ [] =
    ap (map seen_class) c.in_ok-push.ensures.items ∙ map_push seen_class all _ ∙ ap (λ x. map seen_class all ++ x ∷ []) c.attribute_class.ensures in
    made_more attribute_class rows (length all) c.in-Some.pattern.now (map seen_class all) (map seen_class c.push.new.self.items) at
    (sym (length-map all seen_class)) (c.patterns.invariant ∙ ap (λ k. take k (map attribute_class rows)) (length-map all seen_class)) more

pub returns : goal.returns
returns c =
    let all = c.patterns.all.items in
    let at : None ≡ slice_get c.args.grammar.now.patterns (length all) = search rules in
    made_all attribute_class c.args.grammar.now.patterns (length all) (map seen_class all) at (sym (length-map all seen_class)) c.patterns.invariant

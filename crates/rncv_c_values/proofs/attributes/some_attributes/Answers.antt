-- Each attribute that is copied is a text, and the first one that is none ends the loop.
use Rattle.std.proofs.Common.{◌≡◌, ◌∙◌, ◌<◌, ◌+◌, ◌≤◌, ◌∷◌, ◌++◌, [], ℕ, List, ap, length, map, sym, take, Err, rules}
use Rattle.std.proofs.lemmas.List.{map_more, map_push, take_all}
use Rattle.std.proofs.lemmas.List.Elements.{All-more, All-same}
use Rattle.element_events.specs.views.Told.{attribute_told}
use Rattle.rncv_c_values.specs.declared.attributes.AttributeBytes.{AttributeBytes}
use Rattle.rncv_c_values.specs.views.Attributes.{IsTextAttribute, attribute_of}
use Rattle.rncv_c_values.proofs.attributes.some_attributes.Goals as goal

pub returns-then-not-is_text_attribute-clause-fault : goal.returns-then-not-is_text_attribute-clause-fault
returns-then-not-is_text_attribute-clause-fault c = λ wrong all.
    c.is_text_attribute.ensures.none c.if-not-is_text_attribute.true (all _ _ c.loop-attribute-test.true)

pub loop-attribute-preserved : goal.loop-attribute-preserved
loop-attribute-preserved c = record {
  told = ap (map attribute_told) c.in_ok-push.ensures.items ∙ map_push attribute_told c.loop-attribute.told.items c.told_attribute.result
      ∙ ap (λ told. told ++ attribute_told c.told_attribute.result ∷ []) c.loop-attribute.invariant.told
      ∙ ap (λ last. map attribute_of (take c.loop-attribute.attribute-index c.args.attributes.now) ++ last ∷ []) c.told_attribute.ensures
      ∙ sym (map_more attribute_of c.args.attributes.now c.loop-attribute.attribute-index _ c.loop-attribute-test.true);
  texts = All-more IsTextAttribute _ _ _ c.loop-attribute-test.true c.loop-attribute.invariant.texts (c.is_text_attribute.ensures.text c.if-not-is_text_attribute.false);
}

-- taking as many elements as there are, or more, changes nothing
take_whole : (attributes : List AttributeBytes) (n : ℕ) → length attributes ≤ n → attributes ≡ take n attributes
take_whole attributes n all = sym (take_all n attributes all)

pub returns-clause-texts : goal.returns-clause-texts
returns-clause-texts c = All-same IsTextAttribute _ _ (take_whole _ _ c.loop-attribute-test.false) c.loop-attribute.invariant.texts

use Rattle.std.proofs.Common.{◌≡◌, ◌∙◌, [], ◌∷◌, ◌++◌, map, sym, ap, refl, rules, arith, append_assoc}
use Rattle.std.proofs.lemmas.List.{map_push, map-append, take_all}
use Rattle.std.proofs.lemmas.Result.{err_from_is_err_and}
use Rattle.std.specs.Vec.Iter.{drain_items}
use Rattle.rng_model.specs.documents.EventViews.{attribute_of}
use Rattle.rng_model.specs.names.NameViews.{name_of}
use Rattle.pyx.specs.plain.DocumentReader.{declared_in}
use Rattle.pyx.specs.plain.TagReader.{attribute_name, expanded}
use Rattle.pyx.specs.views.WrittenAttributes.{written_attribute}
use Rattle.pyx.proofs.Tags.ExpandedAttributes.{one_more, is_stuck, resolved_some, refuses_all}
use Rattle.pyx.proofs.attributes.fill.Goals as goal

pub others-init : goal.others-init
unfolding expanded
others-init c = record {
  so_far = rw c.requires refl;
  all = ap drain_items c.into_iter-attribute-iterator.ensures.into_iter_gives ∙ c.drain-attribute-items.ensures.rest
      ∙ take_all _ c.args.others.now.items (omega (arith, c.args.others.now.ok.0));
}

pub returns-in_err-name : goal.returns-in_err-name
returns-in_err-name c =
    let p = err_from_is_err_and c.from_residual.result c.from_residual.ensures.1 in
    let rest = drain_items c.next.new.self in
    let parts : map written_attribute c.args.others.now.items ≡ map written_attribute c.others.yielded ++ written_attribute c.in-Some.attribute ∷ map
    written_attribute rest =
    ap (map written_attribute) (sym c.others.invariant.all ∙ ap (λ r. c.others.yielded ++ r) c.in-Some.ensures.steps.0)
    ∙ map-append written_attribute c.others.yielded (c.in-Some.attribute ∷ rest) in
    rw (p.1, p.2, parts) (refuses_all (attribute_name (declared_in c.args.elements.now.opened) (written_attribute c.in-Some.attribute).name) _ c.in_err-name.field-0.0
    (is_stuck (declared_in c.args.elements.now.opened) (map written_attribute c.others.yielded) (map written_attribute rest) (written_attribute c.in-Some.attribute) _
    c.others.invariant.so_far)
    (search rules))

pub others-preserved : goal.others-preserved
others-preserved c = record {
  so_far = rw (map_push written_attribute c.others.yielded c.in-Some.attribute, c.in_ok-push.ensures.items, map_push attribute_of)
      (one_more (declared_in c.args.elements.now.opened) (map written_attribute c.others.yielded) (written_attribute c.in-Some.attribute)
      (map attribute_of c.others.attrs.items) (name_of c.in_ok-name.name) c.others.invariant.so_far (resolved_some _ _ (search rules)));
  all = append_assoc c.others.yielded (c.in-Some.attribute ∷ []) (drain_items c.next.new.self)
      ∙ ap (λ r. c.others.yielded ++ r) (sym c.in-Some.ensures.steps.0) ∙ c.others.invariant.all;
}

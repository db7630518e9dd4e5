use Rattle.std.proofs.Common.{◌∙◌, [], All, ap, map, subst, sym}
use Rattle.std.proofs.lemmas.List.{map_push}
use Rattle.std.proofs.lemmas.List.Elements.{All-append, All-cons, All-nil}
use Rattle.rng_model.specs.names.NameViews.{class_of}
use Rattle.rng_model.specs.simple.TableRules.{IsPaired}
use Rattle.rng_expected.proofs.TagLeaves.{no_class, one_class}
use Rattle.rng_expected.proofs.tags.classes_of.Goals as goal

pub attributes-preserved-in_default : goal.attributes-preserved-in_default
attributes-preserved-in_default c = record {
  paired = c.attributes.invariant.paired;
  classes = no_class c.args.grammar.now c.args.table.now c.args.attributes.now c.attributes.leaf-index _ c.attributes-test.true _
      c.attributes.invariant.classes c.in_default.ensures.class;
}

pub attributes-preserved : goal.attributes-preserved
attributes-preserved c = record {
  paired = subst (All (λ c. IsPaired c.now)) (sym c.in_ok-push.ensures.items)
      (All-append (λ c. IsPaired c.now) c.attributes.classes.items _ c.attributes.invariant.paired
      (All-cons (λ c. IsPaired c.now) c.in-Some.class [] c.in-Some.ensures.paired (All-nil (λ c. IsPaired c.now))));
  classes = one_class c.args.grammar.now c.args.table.now c.args.attributes.now c.attributes.leaf-index _ c.attributes-test.true _
      c.attributes.invariant.classes (class_of c.in-Some.class.now) _ c.in-Some.ensures.class
      (ap (map (λ c. class_of c.now)) c.in_ok-push.ensures.items ∙ map_push (λ c. class_of c.now) c.attributes.classes.items c.in-Some.class);
}

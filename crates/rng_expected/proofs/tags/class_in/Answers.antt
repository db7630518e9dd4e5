use Rattle.std.proofs.Common.{◌∙◌, ap, sym, Some}
use Rattle.rng_model.specs.simple.Table.{tree_at}
use Rattle.rng_model.specs.simple.Tree.{s_attribute}
use Rattle.rng_model.specs.names.NameViews.{class_of}
use Rattle.rng_deriv_table.specs.views.Trees.{attribute_found}
use Rattle.rng_expected.proofs.TagLeaves.{no_class_in}
use Rattle.rng_expected.proofs.tags.class_in.Goals as goal

pub returns-in_default-clause-class : goal.returns-in_default-clause-class
returns-in_default-clause-class c = λ t. no_class_in t c.args.pattern.now c.in_default.not-Attribute

pub returns-in-Attribute-clause-class : goal.returns-in-Attribute-clause-class
returns-in-Attribute-clause-class c = λ t. (
  tree_at t.patterns c.in-Attribute.field-1,
  ap (λ p. attribute_found t (Some p)) c.in-Attribute.is
      ∙ ap (λ class. s_attribute (class_of class) (tree_at t.patterns c.in-Attribute.field-1)) (sym c.as_ref.ensures),
)

use Rattle.std.proofs.Common.{◌≡◌, ◌∙◌, ap, sym, subst, Some, None, slice_get}
use Rattle.std.specs.Option.{option_copied, option_map}
use Rattle.std.proofs.lemmas.List.Elements.{All-contains}
use Rattle.rng_model.proofs.Places.{contains_at}
use Rattle.rng_model.specs.names.NameViews.{class_of}
use Rattle.rng_model.specs.simple.TableRules.{IsClassPaired}
use Rattle.rng_deriv_table.specs.views.Trees.{attribute_found, tree_of}
use Rattle.rng_expected.specs.plain.TagLeaves.{IsClassOf}
use Rattle.rng_expected.proofs.TagLeaves.{attribute_tree, no_class_there}
use Rattle.rng_expected.proofs.tags.class_at.Goals as goal

pub returns-in_err-pattern-clause-class : goal.returns-in_err-pattern-clause-class
returns-in_err-pattern-clause-class c =
    let t = c.args.grammar.now in
    let none : slice_get t.patterns c.in-Attribute.position.0 ≡ None = sym c.pattern-2.ensures.value ∙ ap option_copied c.in_err-pattern.was in
    let is = attribute_tree t c.args.table.now c.args.leaf c.pattern.result.now c.pattern.ensures.table c.pattern.ensures.found c.in-Attribute.position c.in-Attribute.is in
    subst (λ o. IsClassOf (tree_of t c.args.table.now c.args.leaf.0) (option_map (λ c. class_of c.now) o)) (sym c.from_residual.ensures)
    (subst (λ p. IsClassOf p None) (sym (is ∙ ap (attribute_found t) none)) (no_class_there t))

pub returns-clause-paired : goal.returns-clause-paired
returns-clause-paired c =
    let t = c.args.grammar.now in
    let found : slice_get t.patterns c.in-Attribute.position.0 ≡ Some c.in_ok-pattern.field-0.now = sym c.pattern-2.ensures.value ∙ ap option_copied c.in_ok-pattern.was in
    c.class_in.ensures.paired (All-contains IsClassPaired t.patterns c.in_ok-pattern.field-0.now c.requires.grammar.paired
    (contains_at t.patterns c.in-Attribute.position.0 c.in_ok-pattern.field-0.now found))

pub returns-clause-class : goal.returns-clause-class
returns-clause-class c =
    let t = c.args.grammar.now in
    let found : slice_get t.patterns c.in-Attribute.position.0 ≡ Some c.in_ok-pattern.field-0.now = sym c.pattern-2.ensures.value ∙ ap option_copied c.in_ok-pattern.was in
    let is = attribute_tree t c.args.table.now c.args.leaf c.pattern.result.now c.pattern.ensures.table c.pattern.ensures.found c.in-Attribute.position c.in-Attribute.is in
    subst (λ p. IsClassOf p (option_map (λ c. class_of c.now) c.class_in.result)) (sym (is ∙ ap (attribute_found t) found)) (c.class_in.ensures.class t)

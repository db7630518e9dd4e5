use Rattle.std.proofs.Common.{slice_get, sym, subst}
use Rattle.rng_deriv_table.specs.views.Trees.{tree_of}
use Rattle.rng_deriv_ways.proofs.PatternNodes.{found_attribute, found_string, is_over}
use Rattle.rng_deriv_texts.specs.plain.After.{IsLeafFor}
use Rattle.rng_deriv_texts.specs.declared.first.First.TheVariants as firsts
use Rattle.rng_deriv_texts.proofs.LeafKinds.{attribute_sort, string_sort}
use Rattle.rng_deriv_texts.proofs.leaf_tests.is_leaf_for.Goals as goal

pub returns-in-Text-Text : goal.returns-in-Text-Text
returns-in-Text-Text c = λ told t.
    let l = tree_of t c.args.table.now c.args.number.0 in
    let is = is_over t c.args.table.now c.args.number.0 c.pattern.result.now _ c.pattern.ensures.table c.pattern.ensures.found c.in-Text-Text.is-1 in
    subst (λ first. IsLeafFor first l) (sym c.in-Text-Text.is-0)
    (subst (IsLeafFor (firsts.Text c.in-Text-Text.field-0-0 c.in-Text-Text.field-1-0)) (sym is) tt)

pub returns-in-Text-Data : goal.returns-in-Text-Data
returns-in-Text-Data c = λ told t.
    let l = tree_of t c.args.table.now c.args.number.0 in
    let is = is_over t c.args.table.now c.args.number.0 c.pattern.result.now _ c.pattern.ensures.table c.pattern.ensures.found c.in-Text-Data.is-1 in
    subst (λ first. IsLeafFor first l) (sym c.in-Text-Data.is-0)
    (subst (IsLeafFor (firsts.Text c.in-Text-Data.field-0-0 c.in-Text-Data.field-1-0)) (sym is)
    (string_sort (found_string t (slice_get t.patterns c.in-Text-Data.field-0-1.0))))

pub returns-in-Attribute-Attribute : goal.returns-in-Attribute-Attribute
returns-in-Attribute-Attribute c = λ told t.
    let l = tree_of t c.args.table.now c.args.number.0 in
    let is = is_over t c.args.table.now c.args.number.0 c.pattern.result.now _ c.pattern.ensures.table c.pattern.ensures.found
    c.in-Attribute-Attribute.is-1 in
    subst (λ first. IsLeafFor first l) (sym c.in-Attribute-Attribute.is-0)
    (subst (IsLeafFor (firsts.Attribute c.in-Attribute-Attribute.field-0-0)) (sym is)
    (attribute_sort (found_attribute t (slice_get t.patterns c.in-Attribute-Attribute.field-0-1.0))))

use Rattle.std.proofs.Common.{◌≡◌, ◌∙◌, Some, ap, rules, slice_get, string_bytes, subst, sym}
use Rattle.rng_model.specs.declared.simple.Simple.TheVariants as rows
use Rattle.rng_model.specs.datatypes.Texts.{collapse}
use Rattle.rng_model.specs.schema.Patterns.{without_parameters}
use Rattle.rng_deriv_table.specs.views.Trees.{data_found}
use Rattle.rng_deriv_ways.specs.views.Plans.{TakesOnly}
use Rattle.rng_deriv_ways.proofs.PatternNodes.{is_over}
use Rattle.xsd_types.specs.views.View.{known_meaning}
use Rattle.rng_deriv_texts.proofs.NarrowedWays.{value_takes_only}
use Rattle.rng_deriv_texts.proofs.value_index.only_text.Goals as goal

pub returns-in_ok-collapse-in-Some : goal.returns-in_ok-collapse-in-Some
returns-in_ok-collapse-in-Some c =
    let t0 = c.args.context.now.grammar.now in
    let ns = c.args.table.now in
    let value = c.in-Some-Value.value.value in
    let found : slice_get t0.patterns c.in-Data.position.0 ≡ Some (rows.Value c.in-Some-Value.value) = search rules in
    let is = is_over t0 ns c.args.leaf.0 c.pattern.result.now _ c.pattern.ensures.table c.pattern.ensures.found c.in-Data.is ∙ ap (data_found t0) found in
    let text : c.as_str.result.now ≡ string_bytes value.text = search rules in
    let named = sym (c.requires.datatypes c.in-Data.position.0 _ found) ∙ sym c.in-Some.ensures in
    subst (λ s. TakesOnly t0 ns s c.args.leaf) (sym (c.in_ok-collapse-in-Some.ensures ∙ ap collapse text))
    (value_takes_only t0 ns c.args.leaf (without_parameters (string_bytes value.library) (string_bytes value.name)) (string_bytes value.text)
    (known_meaning c.in-Some.datatype.now) c.requires.inside is named (c.compares_texts.ensures c.if-compares_texts.true))

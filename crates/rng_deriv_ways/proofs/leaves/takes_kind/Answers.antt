use Rattle.std.proofs.Common.{refl, ◌∙◌, sym, ap, slice_get}
use Rattle.rng_model.specs.matching.GrammarMatching.{reading_of}
use Rattle.rng_deriv_ways.specs.plain.Kinds.{takes_kind}
use Rattle.rng_deriv_ways.proofs.PatternNodes.{found_string, is_over, other_compound, string_kind, takes_nothing}
use Rattle.rng_deriv_ways.proofs.leaves.takes_kind.Goals as goal

pub returns-in-Text : goal.returns-in-Text
returns-in-Text c =
    let t = c.args.grammar.now in
    c.is_text.ensures (reading_of t) ∙ sym (ap (takes_kind (reading_of t) c.args.kind)
    (is_over t c.args.table.now c.args.number.0 c.pattern.result.now _ c.pattern.ensures.table c.pattern.ensures.found c.in-Text.is))

pub returns-in-Element : goal.returns-in-Element
returns-in-Element c =
    let t = c.args.grammar.now in
    c.element_takes.ensures ∙ sym (ap (takes_kind (reading_of t) c.args.kind)
    (is_over t c.args.table.now c.args.number.0 c.pattern.result.now _ c.pattern.ensures.table c.pattern.ensures.found c.in-Element.is))

pub returns-in-Attribute : goal.returns-in-Attribute
returns-in-Attribute c =
    let t = c.args.grammar.now in
    c.attribute_takes.ensures ∙ sym (ap (takes_kind (reading_of t) c.args.kind)
    (is_over t c.args.table.now c.args.number.0 c.pattern.result.now _ c.pattern.ensures.table c.pattern.ensures.found c.in-Attribute.is))

pub returns-in-Data : goal.returns-in-Data
returns-in-Data c =
    let t = c.args.grammar.now in
    c.is_text-in-Data.ensures (reading_of t)
    ∙ string_kind (reading_of t) c.args.kind (found_string t (slice_get t.patterns c.in-Data.field-0.0))
    ∙ sym (ap (takes_kind (reading_of t) c.args.kind)
    (is_over t c.args.table.now c.args.number.0 c.pattern.result.now _ c.pattern.ensures.table c.pattern.ensures.found c.in-Data.is))

pub returns-in_default : goal.returns-in_default
returns-in_default c =
    takes_nothing (reading_of c.args.grammar.now) c.args.kind c.args.grammar.now c.args.table.now c.args.number.0 c.pattern.result.now c.pattern.result.now
    c.pattern.ensures.table c.pattern.ensures.found refl
    (other_compound c.pattern.result.now c.in_default.not-Text c.in_default.not-Data c.in_default.not-Element c.in_default.not-Attribute)

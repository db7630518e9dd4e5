use Rattle.std.proofs.Common.{◌∙◌, ◌&&◌, not, Some, sym, ap}
use Rattle.std.specs.String.{string_bytes}
use Rattle.rng_model.specs.datatypes.Datatypes.{known_equates}
use Rattle.rng_model.specs.simple.Table.{tree_at, tree_over}
use Rattle.rng_model.specs.declared.datatype.DatatypeValue.{DatatypeValue}
use Rattle.rng_deriv_laws.specs.plain.Derivatives.{is_excepted}
use Rattle.rng_deriv_ways.specs.views.Datatypes.{meaning_at}
use Rattle.rng_model.specs.matching.GrammarMatching.{reading_of}
use Rattle.rng_deriv_ways.proofs.KnownDatatypes.{allowed_there, equal_there}
use Rattle.rng_deriv_texts.proofs.texts.+has_text.Goals as goal

pub has_text-returns-in-Data-clause-text : goal.has_text-returns-in-Data-clause-text
has_text-returns-in-Data-clause-text t c =
    let t0 = c.args.grammar.now in
    let s = c.args.text.now in
    let found = sym c.in-Some.ensures.value ∙ ap Some c.in-Data.is in
    let tree = c.in-Some.ensures.tree ∙ ap (tree_over (tree_at t0.patterns)) c.in-Data.is in
    c.allow.ensures ∙ allowed_there t0 c.args.datatypes.now c.requires.1.1.1.0 c.args.pattern.0 _ found s
    ∙ sym (ap (λ p. is_excepted (reading_of t0) p s) tree)

pub has_text-returns-in_ok-excepted-in-DataExcept-clause-text : goal.has_text-returns-in_ok-excepted-in-DataExcept-clause-text
has_text-returns-in_ok-excepted-in-DataExcept-clause-text t c =
    let t0 = c.args.grammar.now in
    let g = reading_of t0 in
    let s = c.args.text.now in
    let p = tree_at t0.patterns c.in-DataExcept.inner in
    let found = sym c.in-Some.ensures.value ∙ ap Some c.in-DataExcept.is in
    let tree = c.in-Some.ensures.tree ∙ ap (tree_over (tree_at t0.patterns)) c.in-DataExcept.is in
    let own = c.allow-in-DataExcept.ensures ∙ allowed_there t0 c.args.datatypes.now c.requires.1.1.1.0 c.args.pattern.0 _ found s in
    ap not c.in_ok-excepted-in-DataExcept.ensures.text ∙ ap (λ b. b && not (is_excepted g p s)) (sym c.if-not-allow.false ∙ own)
    ∙ sym (ap (λ p. is_excepted g p s) tree)

pub has_text-returns-in-Value-clause-text : goal.has_text-returns-in-Value-clause-text
has_text-returns-in-Value-clause-text t c =
    let t0 = c.args.grammar.now in
    let datatypes = c.args.datatypes.now in
    let s = c.args.text.now in
    let found = sym c.in-Some.ensures.value ∙ ap Some c.in-Value.is in
    let tree = c.in-Some.ensures.tree ∙ ap (tree_over (tree_at t0.patterns)) c.in-Value.is in
    c.equate.ensures ∙ ap (λ v. known_equates (meaning_at datatypes c.args.pattern.0) v s) (c.as_str.ensures.value
    ∙ ap (λ (value : DatatypeValue). string_bytes value.text) c.deref.ensures)
    ∙ equal_there t0 datatypes c.requires.1.1.1.0 c.args.pattern.0 _ found s (string_bytes c.in-Value.value.value.text)
    ∙ sym (ap (λ p. is_excepted (reading_of t0) p s) tree)

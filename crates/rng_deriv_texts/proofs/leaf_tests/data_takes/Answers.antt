use Rattle.std.proofs.Common.{◌∙◌, ◌&&◌, not, Some, sym, ap}
use Rattle.std.specs.String.{string_bytes}
use Rattle.rng_model.specs.datatypes.Datatypes.{known_equates}
use Rattle.rng_model.specs.datatypes.DatatypeViews.{datatype_of}
use Rattle.rng_model.specs.declared.datatype.DatatypeValue.{DatatypeValue}
use Rattle.rng_model.specs.matching.GrammarMatching.{reading_of}
use Rattle.rng_model.specs.schema.Patterns.{without_parameters}
use Rattle.rng_model.specs.simple.Table.{tree_at}
use Rattle.rng_deriv_laws.specs.plain.Derivatives.{is_excepted}
use Rattle.rng_deriv_table.specs.views.Trees.{data_found}
use Rattle.rng_deriv_ways.specs.views.Datatypes.{meaning_at}
use Rattle.rng_deriv_ways.proofs.KnownDatatypes.{allowed_there, equal_there}
use Rattle.rng_deriv_texts.proofs.LeafKinds.{tells_of_data, tells_of_except, tells_of_other, tells_of_value}
use Rattle.rng_deriv_texts.proofs.leaf_tests.data_takes.Goals as goal

pub returns-in-Data : goal.returns-in-Data
returns-in-Data c = λ place no.
    let t0 = c.args.context.now.grammar.now in
    let found = sym c.in-Some.ensures.value ∙ ap Some c.in-Data.is in
    tells_of_data (reading_of t0) place c.args.text _ (datatype_of c.in-Data.field-0.value) _ (ap (data_found t0) found)
    (c.allow.ensures ∙ allowed_there t0 c.args.datatypes.now c.requires c.args.position.0 _ found c.args.text.now)

pub returns-then-not-allow : goal.returns-then-not-allow
returns-then-not-allow c = λ place no.
    let t0 = c.args.context.now.grammar.now in
    let g = reading_of t0 in
    let p = tree_at t0.patterns c.in-DataExcept.except in
    let found = sym c.in-Some.ensures.value ∙ ap Some c.in-DataExcept.is in
    let own = c.allow-in-DataExcept.ensures ∙ allowed_there t0 c.args.datatypes.now c.requires c.args.position.0 _ found c.args.text.now in
    tells_of_except g place c.args.text _ (datatype_of c.in-DataExcept.field-0.value) p _ (ap (data_found t0) found)
    (ap (λ b. b && not (is_excepted g p c.args.text.now)) (sym c.if-not-allow.true ∙ own))

pub returns-in_ok-excepted-in-DataExcept : goal.returns-in_ok-excepted-in-DataExcept
returns-in_ok-excepted-in-DataExcept c = λ place no.
    let t0 = c.args.context.now.grammar.now in
    let g = reading_of t0 in
    let p = tree_at t0.patterns c.in-DataExcept.except in
    let found = sym c.in-Some.ensures.value ∙ ap Some c.in-DataExcept.is in
    let own = c.allow-in-DataExcept.ensures ∙ allowed_there t0 c.args.datatypes.now c.requires c.args.position.0 _ found c.args.text.now in
    tells_of_except g place c.args.text _ (datatype_of c.in-DataExcept.field-0.value) p _ (ap (data_found t0) found)
    (ap not c.in_ok-excepted-in-DataExcept.ensures ∙ ap (λ b. b && not (is_excepted g p c.args.text.now)) (sym c.if-not-allow.false ∙ own))

pub returns-in-Value : goal.returns-in-Value
returns-in-Value c = λ place no.
    let t0 = c.args.context.now.grammar.now in
    let found = sym c.in-Some.ensures.value ∙ ap Some c.in-Value.is in
    let value = c.in-Value.value.value in
    tells_of_value (reading_of t0) place c.args.text _ (without_parameters (string_bytes value.library) (string_bytes value.name))
    (string_bytes value.text) _ (ap (data_found t0) found) (c.equate.ensures
    ∙ ap (λ v. known_equates (meaning_at c.args.datatypes.now c.args.position.0) v c.args.text.now) (c.as_str.ensures.value
    ∙ ap (λ (value : DatatypeValue). string_bytes value.text) c.deref.ensures)
    ∙ equal_there t0 c.args.datatypes.now c.requires c.args.position.0 _ found c.args.text.now (string_bytes value.text))

pub returns-in_default-row : goal.returns-in_default-row
returns-in_default-row c = λ place no.
    let t0 = c.args.context.now.grammar.now in
    let found = sym c.in-Some.ensures.value in
    tells_of_other (reading_of t0) place c.args.text t0 c.in-Some.row.now _ (ap (data_found t0) found) c.in_default-row.not-Data
    c.in_default-row.not-DataExcept c.in_default-row.not-Value (λ body e f. no body e (found ∙ f))

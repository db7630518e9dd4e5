use Rattle.std.proofs.Common.{◌∙◌, Some, sym, ap}
use Rattle.std.specs.String.{string_bytes}
use Rattle.rng_model.specs.datatypes.Datatypes.{known_equates}
use Rattle.rng_model.specs.datatypes.DatatypeViews.{datatype_of}
use Rattle.rng_model.specs.declared.datatype.DatatypeValue.{DatatypeValue}
use Rattle.rng_model.specs.matching.GrammarMatching.{reading_of}
use Rattle.rng_model.specs.schema.Patterns.{without_parameters}
use Rattle.rng_deriv_table.specs.views.Trees.{data_found}
use Rattle.rng_deriv_ways.specs.views.Datatypes.{meaning_at}
use Rattle.rng_deriv_ways.proofs.KnownDatatypes.{allowed_there, equal_there}
use Rattle.rng_deriv_texts.proofs.LeafKinds.{tells_of_data, tells_of_value}
use Rattle.rng_deriv_texts.proofs.settled.datum_takes.Goals as goal

pub returns-in-Data : goal.returns-in-Data
returns-in-Data c = λ place.
    let t0 = c.args.grammar.now in
    let found = sym c.in_ok-row.ensures.value ∙ ap Some c.in-Data.is in
    tells_of_data (reading_of t0) place c.args.text _ (datatype_of c.in-Data.field-0.value) _ (ap (data_found t0) found)
    (c.allow.ensures ∙ allowed_there t0 c.args.datatypes.now c.requires c.args.position.0 _ found c.args.text.now)

pub returns-in-Value : goal.returns-in-Value
returns-in-Value c = λ place.
    let t0 = c.args.grammar.now in
    let found = sym c.in_ok-row.ensures.value ∙ ap Some c.in-Value.is in
    let value = c.in-Value.value.value in
    tells_of_value (reading_of t0) place c.args.text _ (without_parameters (string_bytes value.library) (string_bytes value.name))
    (string_bytes value.text) _ (ap (data_found t0) found) (c.equate.ensures
    ∙ ap (λ v. known_equates (meaning_at c.args.datatypes.now c.args.position.0) v c.args.text.now) (c.as_str.ensures.value
    ∙ ap (λ (value : DatatypeValue). string_bytes value.text) c.deref.ensures)
    ∙ equal_there t0 c.args.datatypes.now c.requires c.args.position.0 _ found c.args.text.now (string_bytes value.text))

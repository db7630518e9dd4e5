use Rattle.std.proofs.Common.{◌≡◌, ◌∙◌, ap, string_bytes}
use Rattle.rng_model.specs.datatypes.DatatypeViews.{datatype_of}
use Rattle.rng_types.specs.views.View.{datatype_at}
use Rattle.rng_schema_checks.specs.plain.PatternTests.{is_unknown}
use Rattle.rng_schema_checks.proofs.KnownDatatypes.{unknown_if_none}
use Rattle.rng_schema_checks.proofs.datatypes.is_unknown.Goals as goal

pub returns : goal.returns
returns c =
    let library = string_bytes c.args.datatype.now.library in
    let name = string_bytes c.args.datatype.now.name in
    let d = datatype_at c.as_str.result.now c.as_str-2.result.now c.deref.result.now in
    let same : d ≡ datatype_of c.args.datatype.now =
    ap (λ l. datatype_at l c.as_str-2.result.now c.deref.result.now) c.as_str.ensures.value
    ∙ ap (λ n. datatype_at library n c.deref.result.now) c.as_str-2.ensures.value
    ∙ ap (datatype_at library name) c.deref.ensures.value in
    unknown_if_none c.args.types d c.in_ok-found.found c.is_none.result c.is_none.ensures c.in_ok-found.ensures
    ∙ ap (is_unknown c.args.types) same

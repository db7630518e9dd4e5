use Rattle.std.proofs.Common.{◌≡◌, ◌∙◌, ap, map}
use Rattle.rng_model.specs.datatypes.DatatypeViews as datatypes
use Rattle.rng_types.specs.views.View.{datatype_at}
use Rattle.rnc_grammar.specs.views.Resolved.{scope_view}
use Rattle.rnc_places.specs.plain.BrokenDatatypes as broken
use Rattle.rnc_syntax.specs.views.SyntaxView.{parameter_of, type_of}
use Rattle.rnc_places.proofs.DatatypeSteps.{same_datatype, unknown_if_none}
use Rattle.rnc_places.proofs.datatypes.is_unknown.Goals as goal

pub returns : goal.returns
returns c =
    let d = datatype_at c.as_str.result.now c.local_of.result.now c.deref.result.now in
    let same : d ≡ broken.datatype_in (scope_view c.args.scope.now) (type_of c.args.type_name) (map parameter_of c.args.parameters.now) =
    same_datatype (scope_view c.args.scope.now) (type_of c.args.type_name) (map parameter_of c.args.parameters.now)
    (map datatypes.parameter_of c.deref.result.now) c.as_str.result.now c.local_of.result.now
    (c.as_str.ensures.value ∙ c.in_ok-library.ensures) c.local_of.ensures (ap (map datatypes.parameter_of) c.deref.ensures.value ∙ c.in_ok-texts.ensures) in
    unknown_if_none c.args.types d c.in_ok-found.found c.is_none.result c.is_none.ensures c.in_ok-found.ensures
    ∙ ap (broken.is_unknown c.args.types) same

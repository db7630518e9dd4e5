use Rattle.std.proofs.Common.{◌≡◌, ◌∙◌, [], ap, refl, sym}
use Rattle.rng_types.specs.views.View.{datatype_at}
use Rattle.rng_model.specs.xsd.Datatypes.{complete_meaning_of}
use Rattle.rng_model.specs.datatypes.Datatypes.{meaning_of, type_named}
use Rattle.xsd_types.proofs.known.in_xml_schema.Goals as goal

pub returns-in-empty : goal.returns-in-empty
unfolding type_named
returns-in-empty c =
    let built_in : meaning_of (datatype_at [] c.args.name.now c.args.params.now) ≡ complete_meaning_of (datatype_at [] c.args.name.now c.args.params.now) = refl in
    c.builtin.ensures ∙ built_in ∙ ap (λ library. complete_meaning_of (datatype_at library c.args.name.now c.args.params.now)) (sym c.in-empty.is)

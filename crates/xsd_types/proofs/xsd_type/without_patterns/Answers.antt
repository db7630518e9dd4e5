use Rattle.std.proofs.Common.{◌∙◌, ap, map, subst, sym}
use Rattle.rng_model.specs.datatypes.DatatypeViews.{parameter_of}
use Rattle.xsd_types.specs.views.Finding.{IsMade}
use Rattle.xsd_types.specs.views.Kinds.{plain_maker}
use Rattle.xsd_types.specs.views.View.{plain_meaning}
use Rattle.xsd_patterns.proofs.Collected.{no_patterns}
use Rattle.xsd_types.proofs.xsd_type.without_patterns.Goals as goal

pub returns-then-have_no_pattern : goal.returns-then-have_no_pattern
returns-then-have_no_pattern c =
    let ps = map parameter_of c.args.params.now in
    subst (λ qs. IsMade plain_meaning (plain_maker c.args.kind qs) c.plain_type.result)
    (sym (no_patterns ps (sym c.have_no_pattern.ensures ∙ c.if-have_no_pattern.true))) c.plain_type.ensures

pub returns-in-Ok : goal.returns-in-Ok
returns-in-Ok c =
    subst (λ qs. IsMade plain_meaning (plain_maker c.args.kind qs) c.plain_type-in-Ok.result)
    (ap (map parameter_of) c.as_slice.ensures.value ∙ c.in-Ok.ensures) c.plain_type-in-Ok.ensures

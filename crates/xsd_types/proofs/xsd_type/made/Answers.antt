use Rattle.std.proofs.Common.{Some, map, subst}
use Rattle.rng_model.specs.datatypes.DatatypeViews.{parameter_of}
use Rattle.xsd_patterns.specs.views.Compiled.{AreCompiled}
use Rattle.xsd_types.specs.views.Kinds.{plain_maker, white_space_of}
use Rattle.xsd_types.specs.views.View.{plain_meaning}
use Rattle.xsd_types.proofs.Restricted.{made_with}
use Rattle.xsd_types.proofs.xsd_type.made.Goals as goal

pub returns-in-Ok-Some : goal.returns-in-Ok-Some
returns-in-Ok-Some c =
    let ps = map parameter_of c.args.params.now in
    made_with (white_space_of c.args.kind) (plain_maker c.args.kind) ps (plain_meaning c.in_ok-plain.plain) c.in-Ok-Some.patterns c.in_ok-plain.ensures
    (subst (λ w. AreCompiled w ps (Some c.in-Ok-Some.patterns)) c.white_space_of-white_space.ensures
    (subst (AreCompiled c.white_space_of-white_space.result ps) c.in-Ok-Some.field-0-is c.in-Ok-Some.ensures))

use Rattle.std.proofs.Common.{ap, sym, ◌∙◌}
use Rattle.xsd_uris.specs.plain.UriShapes.{is_behind_scheme}
use Rattle.xsd_uris.proofs.reference.is_behind_scheme.Goals as goal

pub returns-in-Some : goal.returns-in-Some
returns-in-Some c = c.is_absolute_rest.ensures c.in-Some.field-0-0.now ∙ ap is_behind_scheme (sym c.in-Some.ensures.cases.0)

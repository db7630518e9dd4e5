use Rattle.std.proofs.Common.{ap, sym, ◌∙◌}
use Rattle.xsd_uris.specs.plain.UriShapes.{is_host_and_path}
use Rattle.xsd_uris.proofs.authority.is_host_and_path.Goals as goal

pub returns-in-Some : goal.returns-in-Some
returns-in-Some c = c.is_address_and_path.ensures c.in-Some.field-0-0.now ∙ ap is_host_and_path (sym c.in-Some.ensures.cases.0)

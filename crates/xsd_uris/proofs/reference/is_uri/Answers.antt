use Rattle.std.proofs.Common.{ap, sym, ◌∙◌}
use Rattle.rng_model.specs.datatypes.Texts.{collapse}
use Rattle.rng_types.specs.plain.Runs.{past_blanks}
use Rattle.xsd_uris.specs.plain.TrimmedTexts.{past_end}
use Rattle.xsd_uris.specs.plain.UriShapes.{has_uri_shape}
use Rattle.xsd_uris.proofs.References.{is_uri_shape}
use Rattle.xsd_uris.proofs.RunsOfTexts.{IsUtf8-collapse, collapsed_shape}
use Rattle.xsd_uris.proofs.reference.is_uri.Goals as goal

pub returns : goal.returns
returns c =
    let s = c.args.text.now in
    let trimmed = c.past_end.ensures ∙ ap past_end (c.past_blanks.ensures.past ∙ ap past_blanks c.as_bytes.ensures.value) in
    c.has_uri_shape.ensures
    ∙ ap has_uri_shape trimmed
    ∙ sym (collapsed_shape s c.utf8.text)
    ∙ sym (is_uri_shape (collapse s) (IsUtf8-collapse s c.utf8.text))

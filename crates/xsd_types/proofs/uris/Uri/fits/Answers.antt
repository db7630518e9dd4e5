use Rattle.std.proofs.Common.{◌∙◌}
use Rattle.rng_model.specs.datatypes.Facets.{fits}
use Rattle.rng_model.specs.datatypes.Texts.{collapse}
use Rattle.rng_types.specs.views.View.{lengths_of}
use Rattle.rng_types.proofs.TextValues.{is_some-text_if}
use Rattle.xsd_types.proofs.uris.Uri.fits.Goals as goal

pub returns : goal.returns
returns c =
    let w = collapse c.args.text.now in
    c.allows.ensures ∙ is_some-text_if (fits (lengths_of c.args.self.now.lengths) w) w

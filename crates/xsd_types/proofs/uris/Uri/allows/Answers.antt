use Rattle.std.proofs.Common.{◌&&◌, sym, ◌∙◌}
use Rattle.rng_model.specs.datatypes.Facets.{fits}
use Rattle.rng_model.specs.datatypes.Texts.{collapse}
use Rattle.rng_model.specs.xsd.Uris.{is_uri}
use Rattle.rng_types.specs.views.View.{lengths_of}
use Rattle.rng_types.proofs.TextValues.{passes_and, fails_and, is_some-text_if}
use Rattle.xsd_types.proofs.uris.Uri.allows.Goals as goal

pub returns-then-is_uri : goal.returns-then-is_uri
returns-then-is_uri c =
    let w = collapse c.args.text.now in
    let l = lengths_of c.args.self.now.lengths in
    passes_and _ (is_uri w) (fits l w) _ c.is_uri.ensures c.if-is_uri.true c.fits.ensures ∙ sym (is_some-text_if (is_uri w && fits l w) w)

pub returns-else-is_uri : goal.returns-else-is_uri
returns-else-is_uri c =
    let w = collapse c.args.text.now in
    let l = lengths_of c.args.self.now.lengths in
    fails_and _ (is_uri w) (fits l w) c.is_uri.ensures c.if-is_uri.false ∙ sym (is_some-text_if (is_uri w && fits l w) w)

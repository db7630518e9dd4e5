use Rattle.std.proofs.Common.{◌&&◌, sym, ◌∙◌}
use Rattle.rng_model.specs.datatypes.Facets.{fits}
use Rattle.rng_model.specs.datatypes.Texts.{collapse}
use Rattle.rng_model.specs.xsd.Uris.{is_uri, xsd_any_uri}
use Rattle.rng_types.specs.views.View.{lengths_of}
use Rattle.rng_types.proofs.TextValues.{texts_equal, never_equal}
use Rattle.xsd_types.proofs.uris.Uri.equal.Goals as goal

pub returns-then-allows : goal.returns-then-allows
returns-then-allows c =
    let l = lengths_of c.args.self.now.lengths in
    c.is_same_collapsed.ensures
    ∙ texts_equal (λ w. is_uri w && fits l w) (collapse c.args.a.now) (collapse c.args.b.now) (sym c.allows.ensures ∙ c.if-allows.true)

pub returns-else-allows : goal.returns-else-allows
returns-else-allows c =
    let value = xsd_any_uri (lengths_of c.args.self.now.lengths) in
    c.if-allows.false ∙ sym (never_equal (value c.args.a.now) (value c.args.b.now) (sym c.allows.ensures ∙ c.if-allows.false))

use Rattle.std.proofs.Common.{sym, ◌∙◌}
use Rattle.rng_model.specs.datatypes.Texts.{collapse}
use Rattle.rng_types.specs.views.View.{lengths_of}
use Rattle.rng_types.proofs.TextValues.{texts_equal, never_equal}
use Rattle.xsd_types.proofs.SpacedWords.{is_good}
use Rattle.xsd_types.proofs.words.Word.equal.Goals as goal

pub returns-then-allows : goal.returns-then-allows
returns-then-allows c =
    let good = is_good c.args.self.now.kind (lengths_of c.args.self.now.lengths) in
    c.is_same_collapsed.ensures ∙ texts_equal good (collapse c.args.a.now) (collapse c.args.b.now) (sym c.allows.ensures ∙ c.if-allows.true)

pub returns-else-allows : goal.returns-else-allows
returns-else-allows c = c.if-allows.false ∙ sym (never_equal _ _ (sym c.allows.ensures ∙ c.if-allows.false))

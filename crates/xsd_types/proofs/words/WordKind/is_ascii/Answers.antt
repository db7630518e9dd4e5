use Rattle.std.proofs.Common.{◌≡◌, ◌∙◌, true, subst, sym}
use Rattle.xsd_types.specs.views.View.{word_test}
use Rattle.xsd_types.proofs.AsciiWords.{qname_ascii}
use Rattle.xsd_types.proofs.words.WordKind.is_ascii.Goals as goal

pub returns-in-QName : goal.returns-in-QName
returns-in-QName c = λ e.
    subst (λ k. word_test k c.args.word.now ≡ true) (sym c.in-QName.is)
    (qname_ascii c.args.word.now (sym c.starts_name-in-QName.ensures ∙ e) c.requires)

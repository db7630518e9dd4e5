use Rattle.std.proofs.Common.{subst, sym}
use Rattle.rng_model.specs.xsd.Uris.{is_uri}
use Rattle.rng_types.specs.views.View.{lengths_of}
use Rattle.xsd_types.specs.views.View.{item_test, plain_meaning, word_test}
use Rattle.rng_deriv_texts.specs.plain.ValueWays.{ComparesTexts}
use Rattle.rng_deriv_texts.proofs.ComparedTexts.{list_compares, ncname_compares, nmtoken_compares, normalized_compares}
use Rattle.rng_deriv_texts.proofs.ComparedTexts.{string_compares, token_compares, word_compares}
use Rattle.rng_deriv_texts.proofs.value_index.plain_compares_texts.Goals as goal

pub returns-in-String : goal.returns-in-String
returns-in-String c = λ e.
    subst (λ d. ComparesTexts (plain_meaning d)) (sym c.in-String.is) (string_compares (lengths_of c.in-String.field-0.lengths))

pub returns-in-NormalizedString : goal.returns-in-NormalizedString
returns-in-NormalizedString c = λ e.
    subst (λ d. ComparesTexts (plain_meaning d)) (sym c.in-NormalizedString.is) (normalized_compares (lengths_of c.in-NormalizedString.field-0.lengths))

pub returns-in-Token : goal.returns-in-Token
returns-in-Token c = λ e.
    subst (λ d. ComparesTexts (plain_meaning d)) (sym c.in-Token.is) (token_compares (lengths_of c.in-Token.field-0.lengths))

pub returns-in-NcName : goal.returns-in-NcName
returns-in-NcName c = λ e.
    subst (λ d. ComparesTexts (plain_meaning d)) (sym c.in-NcName.is) (ncname_compares (lengths_of c.in-NcName.field-0.lengths))

pub returns-in-NmToken : goal.returns-in-NmToken
returns-in-NmToken c = λ e.
    subst (λ d. ComparesTexts (plain_meaning d)) (sym c.in-NmToken.is) (nmtoken_compares (lengths_of c.in-NmToken.field-0.lengths))

pub returns-in-Uri : goal.returns-in-Uri
returns-in-Uri c = λ e.
    subst (λ d. ComparesTexts (plain_meaning d)) (sym c.in-Uri.is) (word_compares (lengths_of c.in-Uri.field-0.lengths) is_uri)

pub returns-in-Word : goal.returns-in-Word
returns-in-Word c = λ e.
    subst (λ d. ComparesTexts (plain_meaning d)) (sym c.in-Word.is) (word_compares (lengths_of c.in-Word.field-0.lengths) (word_test c.in-Word.field-0.kind))

pub returns-in-List : goal.returns-in-List
returns-in-List c = λ e.
    subst (λ d. ComparesTexts (plain_meaning d)) (sym c.in-List.is) (list_compares (lengths_of c.in-List.field-0.lengths) (item_test c.in-List.field-0.kind))

use Rattle.std.proofs.Common.{⊎_elim, subst, sym}
use Rattle.rng_types.specs.views.View.{meaning_by, lengths_of}
use Rattle.rng_deriv_texts.specs.plain.ValueWays.{ComparesTexts}
use Rattle.rng_deriv_texts.proofs.ComparedTexts.{ncname_compares, nmtoken_compares}
use Rattle.rng_deriv_texts.proofs.value_index.builtin_compares_texts.Goals as goal

pub returns-in-NcName : goal.returns-in-NcName
returns-in-NcName c = λ e. ⊎_elim
    (λ h. subst (λ d. ComparesTexts (meaning_by d)) (sym h.1) (ncname_compares (lengths_of h.0.lengths)))
    (λ h. subst (λ d. ComparesTexts (meaning_by d)) (sym h.1) (nmtoken_compares (lengths_of h.0.lengths))) c.in-NcName.is

pub returns-in-NcName-2 : goal.returns-in-NcName-2
returns-in-NcName-2 c = λ e. ⊎_elim
    (λ h. subst (λ d. ComparesTexts (meaning_by d)) (sym h.1) (ncname_compares (lengths_of h.0.lengths)))
    (λ h. subst (λ d. ComparesTexts (meaning_by d)) (sym h.1) (nmtoken_compares (lengths_of h.0.lengths))) c.in-NcName.is

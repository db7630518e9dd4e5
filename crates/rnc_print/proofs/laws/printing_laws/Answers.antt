use Rattle.rnc_print.proofs.OneForm as form
use Rattle.rnc_print.proofs.OneText as text
use Rattle.rnc_print.proofs.SameNumberings as numbering
use Rattle.rnc_print.proofs.SameText as renumbered
use Rattle.rnc_print.proofs.laws.printing_laws.Goals as goal

pub returns-clause-one : goal.returns-clause-one
returns-clause-one c = text.one_text

pub returns-clause-same : goal.returns-clause-same
returns-clause-same c = renumbered.same_text

pub returns-clause-schema : goal.returns-clause-schema
returns-clause-schema c = form.one_form

pub returns-clause-as_many : goal.returns-clause-as_many
returns-clause-as_many c = numbering.as_many

pub returns-clause-form : goal.returns-clause-form
returns-clause-form c = numbering.is_form_too

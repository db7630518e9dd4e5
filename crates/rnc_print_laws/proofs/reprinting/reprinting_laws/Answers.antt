use Rattle.rnc_print_laws.proofs.SimpleForms.LinesKept.{reprinted_kept, reprinted_form, reprinted_only, reprinted_numbers, reprinted_text, same_text_again}
use Rattle.rnc_print_laws.proofs.reprinting.reprinting_laws.Goals as goal

pub returns-clause-kept : goal.returns-clause-kept
returns-clause-kept c = reprinted_kept

pub returns-clause-form : goal.returns-clause-form
returns-clause-form c = reprinted_form

pub returns-clause-only : goal.returns-clause-only
returns-clause-only c = reprinted_only

pub returns-clause-printed : goal.returns-clause-printed
returns-clause-printed c = reprinted_text

pub returns-clause-same : goal.returns-clause-same
returns-clause-same c = same_text_again

pub returns-clause-numbers : goal.returns-clause-numbers
returns-clause-numbers c = reprinted_numbers

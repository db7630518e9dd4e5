use Rattle.rncv_run.proofs.LoadedSchemas.{same_schema}
use Rattle.rncv_run.proofs.OneAnswer.{one_answer}
use Rattle.rncv_run.proofs.OneSimpleForm.{one_simple_form, unknown_in_each}
use Rattle.rncv_run.proofs.laws.answer_laws.Goals as goal

pub returns-clause-schema : goal.returns-clause-schema
returns-clause-schema c = same_schema

pub returns-clause-form : goal.returns-clause-form
returns-clause-form c = one_simple_form

pub returns-clause-unknown : goal.returns-clause-unknown
returns-clause-unknown c = unknown_in_each

pub returns-clause-answer : goal.returns-clause-answer
returns-clause-answer c = one_answer

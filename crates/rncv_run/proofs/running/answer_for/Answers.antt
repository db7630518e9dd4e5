use Rattle.rnc_model.specs.loading.SchemaFile.{named_files}
use Rattle.rncv_model.specs.answers.Run.{main_name}
use Rattle.std.proofs.lemmas.Result.{IfOk-weaker}
use Rattle.rncv_run.proofs.LoadedSchemas.{judges_none}
use Rattle.rncv_run.proofs.Refusals.{refused_files}
use Rattle.rncv_run.proofs.running.answer_for.Goals as goal

pub returns-in-Ok-clause-unread : goal.returns-in-Ok-clause-unread
returns-in-Ok-clause-unread g c = λ none. c.answer_by.ensures.unread (judges_none _ _ _ _ c.in-Ok.ensures.compiled none)

pub returns-in-Ok-clause-answer : goal.returns-in-Ok-clause-answer
returns-in-Ok-clause-answer g c =
    IfOk-weaker c.answer_by.result _ _ (λ a is. is _ _ c.in-Ok.ensures.compiled) c.answer_by.ensures.answer

pub returns-in_ok-refusal-in-Err-clause-answer : goal.returns-in_ok-refusal-in-Err-clause-answer
returns-in_ok-refusal-in-Err-clause-answer g c =
    refused_files _ _ _ (named_files c.args.files.now) (main_name c.args.files.now) c.in-Err.fault _ c.in-Err.ensures.refused c.in_ok-refusal-in-Err.ensures

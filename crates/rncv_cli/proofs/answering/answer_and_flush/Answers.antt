use Rattle.rnc_model.specs.loading.SchemaFile.{named_files}
use Rattle.rncv_model.specs.answers.Run.{IsAnswer, main_name}
use Rattle.rncv_cli.proofs.ProgramEnds.{flush_failed}
use Rattle.rncv_cli.proofs.answering.answer_and_flush.Goals as goal

pub returns-in-Err-flush : goal.returns-in-Err-flush
returns-in-Err-flush g c = flush_failed g.R.Read.remaining g.W.Write.contents (IsAnswer c.args.command (named_files c.args.files.now) (main_name c.args.files.now))
    c.args.input.now c.run.new.input c.args.output.now c.run.new.output c.flush.new.self c.in-Ok.status
    c.in-Ok.ensures.answer c.in-Ok.ensures.calm_output c.in-Err-flush.ensures.bytes c.in-Err-flush.ensures.failures

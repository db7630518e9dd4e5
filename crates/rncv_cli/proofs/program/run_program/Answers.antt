use Rattle.rncv_cli.proofs.ProgramEnds.{status_by}
use Rattle.rncv_cli.proofs.program.run_program.Goals as goal

pub returns-clause-end : goal.returns-clause-end
returns-clause-end g c = (c.answer_command_line-answer.result, c.exit_of.ensures, c.answer_command_line-answer.ensures.end)

pub returns-clause-none : goal.returns-clause-none
returns-clause-none g c = status_by c.args.given _ c.answer_command_line-answer.result _ _ c.answer_command_line-answer.ensures.none c.exit_of.ensures

pub returns-clause-memory : goal.returns-clause-memory
returns-clause-memory g c = status_by c.args.given _ c.answer_command_line-answer.result _ _ c.answer_command_line-answer.ensures.memory c.exit_of.ensures

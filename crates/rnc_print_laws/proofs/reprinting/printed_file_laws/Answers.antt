use Rattle.rnc_print_laws.proofs.LinesLoaded.{printed_again, printed_alone}
use Rattle.rnc_print_laws.proofs.Lines.LinesTaken.{lines_taken, lines_are_schema, schema_is_lines}
use Rattle.rnc_print_laws.proofs.reprinting.printed_file_laws.Goals as goal

pub returns-clause-taken : goal.returns-clause-taken
returns-clause-taken c = λ files main g items has. lines_taken main g items files has

pub returns-clause-lines : goal.returns-clause-lines
returns-clause-lines c = lines_are_schema

pub returns-clause-there : goal.returns-clause-there
returns-clause-there c = schema_is_lines

pub returns-clause-again : goal.returns-clause-again
returns-clause-again c = printed_again

pub returns-clause-alone : goal.returns-clause-alone
returns-clause-alone c = printed_alone

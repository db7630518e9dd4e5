use Rattle.rnc_print_laws.proofs.WellSpelled.Components.{loaded_spelled, files_printable}
use Rattle.rnc_print_laws.proofs.WellSpelled.FileTrees.{schema_file_spelled}
use Rattle.rnc_print_laws.proofs.Printability.PrintableForms.{grammar_printable}
use Rattle.rnc_print_laws.proofs.printable.printable_laws.Goals as goal

pub returns-clause-file : goal.returns-clause-file
returns-clause-file c = schema_file_spelled

pub returns-clause-schema : goal.returns-clause-schema
returns-clause-schema c = loaded_spelled

pub returns-clause-form : goal.returns-clause-form
returns-clause-form c = grammar_printable

pub returns-clause-printable : goal.returns-clause-printable
returns-clause-printable c = files_printable

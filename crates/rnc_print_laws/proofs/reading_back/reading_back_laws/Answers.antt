use Rattle.rnc_print_laws.proofs.Printability.NamedDatatypes.{known_named}
use Rattle.rnc_print_laws.proofs.ReadBack.ReadsBack.{printed_reads_back}
use Rattle.rnc_print_laws.proofs.reading_back.reading_back_laws.Goals as goal

pub returns-clause-read : goal.returns-clause-read
returns-clause-read c = printed_reads_back c.marks_laws.ensures.cut c.marks_laws.ensures.decoded

pub returns-clause-named : goal.returns-clause-named
returns-clause-named c = known_named

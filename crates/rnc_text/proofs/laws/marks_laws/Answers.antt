use Rattle.rnc_text.proofs.MarksCut.{marks_cut}
use Rattle.rnc_text.proofs.MarkScalars.{marks_decoded}
use Rattle.rnc_text.proofs.laws.marks_laws.Goals as goal

pub returns-clause-cut : goal.returns-clause-cut
returns-clause-cut c = marks_cut

pub returns-clause-decoded : goal.returns-clause-decoded
returns-clause-decoded c = marks_decoded

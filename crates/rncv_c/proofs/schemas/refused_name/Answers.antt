use Rattle.std.proofs.Common.{Err, ap}
use Rattle.rncv_c.proofs.schemas.refused_name.Goals as goal

pub returns-in-Err-clause-misuse : goal.returns-in-Err-clause-misuse
returns-in-Err-clause-misuse c = λ misuse named name. c.in-Err.ensures.misuse (ap Err misuse) name

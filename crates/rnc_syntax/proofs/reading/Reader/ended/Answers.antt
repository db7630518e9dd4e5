use Rattle.std.proofs.Common.{arith}
use Rattle.rnc_syntax.proofs.FileEnds.{not_ended}
use Rattle.rnc_syntax.proofs.reading.Reader.ended.Goals as goal

pub returns-in_default : goal.returns-in_default
returns-in_default g c = not_ended _ _ _ _ (omega (arith, c.in_default.len_at_least)) c.unexpected.ensures

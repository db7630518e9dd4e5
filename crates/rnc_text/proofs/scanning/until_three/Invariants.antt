use Rattle.std.proofs.Common.{length}
use Rattle.rnc_text.proofs.ScanResults.{Looks}
use Rattle.rnc_text.proofs.scanning.until_three.Given as goal

abbrev pub invariant-characters : goal.invariant-characters
invariant-characters l = Looks l.quote l.from l.end

abbrev pub decreases-characters : goal.decreases-characters
decreases-characters l = length l.end.rest.now

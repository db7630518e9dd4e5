use Rattle.std.proofs.Common.{length}
use Rattle.rnc_text.specs.plain.Cursors.{Walks}
use Rattle.rnc_text.proofs.scanning.past.Given as goal

abbrev pub invariant-characters : goal.invariant-characters
invariant-characters l = Walks l.class l.from l.to

abbrev pub decreases-characters : goal.decreases-characters
decreases-characters l = length l.to.rest.now

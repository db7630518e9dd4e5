use Rattle.std.proofs.Common.{length}
use Rattle.xsd_uris.specs.views.PassedColons.{PassedTo}
use Rattle.xsd_uris.proofs.splits.split_double.Given as goal

abbrev pub invariant-bytes : goal.invariant-bytes
invariant-bytes l = PassedTo l.bytes l.rest

abbrev pub decreases-bytes : goal.decreases-bytes
decreases-bytes l = length l.rest

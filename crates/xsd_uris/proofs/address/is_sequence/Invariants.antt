use Rattle.std.proofs.Common.{◌≡◌, length}
use Rattle.xsd_uris.specs.plain.UriShapes.{is_sequence}
use Rattle.xsd_uris.proofs.address.is_sequence.Given as goal

abbrev pub invariant-groups : goal.invariant-groups
invariant-groups l = is_sequence l.rest ≡ is_sequence l.bytes

abbrev pub decreases-groups : goal.decreases-groups
decreases-groups l = length l.rest

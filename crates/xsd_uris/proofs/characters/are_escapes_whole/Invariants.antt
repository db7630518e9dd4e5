use Rattle.std.proofs.Common.{◌≡◌, length}
use Rattle.xsd_uris.specs.plain.UriShapes.{are_escapes_whole}
use Rattle.xsd_uris.proofs.characters.are_escapes_whole.Given as goal

abbrev pub invariant-bytes : goal.invariant-bytes
invariant-bytes l = are_escapes_whole l.rest ≡ are_escapes_whole l.bytes

abbrev pub decreases-bytes : goal.decreases-bytes
decreases-bytes l = length l.rest

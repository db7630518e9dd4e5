use Rattle.std.proofs.Common.{◌≡◌, length}
use Rattle.xsd_uris.specs.plain.TrimmedTexts.{past_end}
use Rattle.xsd_uris.proofs.trims.past_end.Given as goal

abbrev pub invariant-blanks : goal.invariant-blanks
invariant-blanks l = past_end l.rest ≡ past_end l.bytes

abbrev pub decreases-blanks : goal.decreases-blanks
decreases-blanks l = length l.rest

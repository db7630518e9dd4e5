use Rattle.std.proofs.Common.{length}
use denote.Text.{Utf8}
use denote.Shadow.{shadow}
use Rattle.std.specs.Str.{chars}
use Rattle.rnc_text.proofs.FilePlaces.{Leaves}
use Rattle.rnc_text.proofs.placing.left_behind.Given as goal

abbrev pub invariant-rest : goal.invariant-rest
invariant-rest l = record {
  text : shadow (Utf8 l.rest);
  leaves : Leaves (chars l.text) l.count l.more (chars l.rest);
}

abbrev pub decreases-rest : goal.decreases-rest
decreases-rest l = length l.rest

use Rattle.std.proofs.Common.{◌≡◌, length, false}
use denote.Text.{Utf8}
use denote.Shadow.{shadow}
use Rattle.std.specs.Str.{chars}
use Rattle.rnc_text.specs.plain.DecodingSteps.{opens_from}
use Rattle.rnc_text.proofs.decoding.opens_escape.Given as goal

abbrev pub invariant-letters : goal.invariant-letters
invariant-letters l = record {
  text : shadow (Utf8 l.rest);
  same : opens_from l.any (chars l.rest) ≡ opens_from false (chars l.text);
}

abbrev pub decreases-letters : goal.decreases-letters
decreases-letters l = length l.rest

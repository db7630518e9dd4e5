use Rattle.std.proofs.Common.{◌≤◌, length}
use denote.Text.{Utf8}
use denote.Shadow.{shadow}
use Rattle.std.specs.Str.{chars}
use Rattle.rnc_model.specs.characters.Decoding.{Decodes}
use Rattle.rnc_text.proofs.decoding.decode.Given as goal

abbrev pub invariant-rest : goal.invariant-rest
invariant-rest l = record {
  text : shadow (Utf8 l.rest);
  within : length l.rest ≤ length l.text;
  decoded : Decodes (chars l.text) l.decoded (chars l.rest);
}

abbrev pub decreases-rest : goal.decreases-rest
decreases-rest l = length l.rest

use Rattle.std.proofs.Common.{◌≤◌, ◌+◌, length}
use denote.Text.{Utf8}
use denote.Shadow.{shadow}
use Rattle.std.specs.Str.{chars}
use Rattle.rnc_text.proofs.FilePlaces.{Reaches}
use Rattle.rnc_text.proofs.placing.place_before.Given as goal

abbrev pub invariant-characters : goal.invariant-characters
invariant-characters l = record {
  text : shadow (Utf8 l.rest);
  within : length l.rest ≤ length l.text;
  lines : l.line + length l.rest ≤ length l.text + 1;
  columns : l.column + length l.rest ≤ length l.text + 1;
  reaches : Reaches (chars l.text) l.left l.line l.column (chars l.rest);
}

abbrev pub decreases-characters : goal.decreases-characters
decreases-characters l = length l.rest

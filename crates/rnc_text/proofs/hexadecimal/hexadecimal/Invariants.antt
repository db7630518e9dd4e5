use Rattle.std.proofs.Common.{◌≡◌, ◌-◌, ◌<◌, ◌≤◌}
use denote.Text.{Utf8}
use denote.Shadow.{shadow}
use Rattle.std.specs.Str.{chars}
use Rattle.rnc_text.specs.plain.DecodingSteps.{hexadecimal_end}
use Rattle.rnc_text.proofs.HexadecimalSteps.{most}
use Rattle.rnc_text.proofs.hexadecimal.hexadecimal.Given as goal

abbrev pub invariant-loop-count : goal.invariant-loop-count
invariant-loop-count l = record {
  text : shadow (Utf8 l.rest);
  within : l.count ≤ 7;
  fits : l.number < most l.count;
  same : hexadecimal_end (7 - l.count) l.number (chars l.rest) ≡ hexadecimal_end 7 0 (chars l.text);
}

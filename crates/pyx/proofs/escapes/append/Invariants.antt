use Rattle.std.proofs.Common.{◌≡◌, string_bytes, length}
use denote.Text.{Utf8}
use denote.Shadow.{shadow}
use Rattle.pyx.specs.plain.Escapes.{unescaped, in_front}
use Rattle.pyx.proofs.escapes.append.Given as goal

abbrev pub invariant-escapes : goal.invariant-escapes
invariant-escapes l = record {
  utf8 : shadow (Utf8 l.rest);
  so_far : in_front (string_bytes l.fn.value) (unescaped l.fn.text) ≡ in_front (string_bytes l.value) (unescaped l.rest);
}

abbrev pub decreases-escapes : goal.decreases-escapes
decreases-escapes l = length l.rest

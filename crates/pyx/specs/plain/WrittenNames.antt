-- Names as they are written.
use Rattle.std.specs.Prelude.{ℕ, List, Option, Some, None}
use Rattle.rng_model.specs.documents.PyxLines.{QName}
use Rattle.pyx.specs.plain.Cuts.{at_byte}

-- a name, cut at its first colon
abbrev pub cut_name : Option (List ℕ × List ℕ) → List ℕ → QName
cut_name None bytes = record { prefix = None; local = bytes }
cut_name (Some p) bytes = record { prefix = Some p.0; local = p.1 }

unfoldable pub written_of : List ℕ → QName
written_of bytes = cut_name (at_byte 58 bytes) bytes

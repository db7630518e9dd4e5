-- The content of one line, read from left to right, or the first clause that it breaks by itself, in the order in which
-- clauses are judged.
use Rattle.std.specs.Prelude.{ℕ, nat_le, Bool, ◌&&◌, List, Option, Some, None, length, Result, Ok, Err, if◌then◌else◌}
use Rattle.std.specs.List.{list_all}
use Rattle.std.specs.Str.{chars, is_utf8}
use Rattle.rng_model.specs.names.Names.{is_ncname, is_xml_char}
use Rattle.rng_model.specs.documents.Lines.{Line, line_limit}
use Rattle.rng_model.specs.documents.PyxLines.{Said, QName, start, attribute, text, end, instruction}
use Rattle.pyx.specs.plain.Cuts.{behind, either_way, at_byte}
use Rattle.pyx.specs.plain.WrittenNames.{written_of}
use Rattle.pyx.specs.plain.Escapes.{unescaped}

abbrev pub are_ncnames : Option (List ℕ × List ℕ) → List ℕ → Bool
are_ncnames None bytes = is_ncname (chars bytes)
are_ncnames (Some p) bytes = is_ncname (chars p.0) && is_ncname (chars p.1)

unfoldable pub is_name : List ℕ → Bool
is_name bytes = are_ncnames (at_byte 58 bytes) bytes

-- the result of reading, or the clause that is broken
abbrev pub Read : Type 0 → Type 0
Read A = Result A ℕ

unfoldable pub named : (QName → Said) → List ℕ → Read Said
named said name = if is_name name then Ok (said (written_of name)) else Err 6

unfoldable pub text_of : List ℕ → Read Said
text_of bytes = either_way (unescaped bytes) (Err 5) (λ value. Ok (text value))

unfoldable pub attribute_of : List ℕ → Read Said
attribute_of bytes = either_way (at_byte 32 bytes) (Err 6) (λ p. either_way (unescaped p.1) (Err 5)
    (λ value. if is_name p.0 then Ok (attribute (written_of p.0) value) else Err 6))

unfoldable pub kind_of : List ℕ → Read Said
kind_of line =
    either_way (behind 40 line) (
    either_way (behind 65 line) (
    either_way (behind 45 line) (
    either_way (behind 41 line) (
    either_way (behind 63 line) (Err 4) (λ rest. Ok instruction)) (named end)) text_of) attribute_of) (named start)

unfoldable pub characters_of : List ℕ → Read Said
characters_of bytes = if list_all is_xml_char (chars bytes) then kind_of bytes else Err 3

unfoldable pub bytes_of : List ℕ → Read Said
bytes_of bytes = if is_utf8 bytes then characters_of bytes else Err 2

unfoldable pub said_of : Line → Read Said
said_of l = if nat_le (length l.bytes) line_limit then (if l.ended then bytes_of l.bytes else Err 1) else Err 10

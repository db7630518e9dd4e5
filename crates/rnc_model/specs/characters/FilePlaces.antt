-- Places in a file: an offset in bytes, and a line and a column, from 1 (RELAX NG Compact Syntax, "Lexical structure": a CR LF, a CR and an LF are one
-- line end each). Columns count characters as they are written.
use Rattle.std.specs.Prelude.{◌≡◌, ◌==◌, ◌&&◌, ◌||◌, not, ℕ, suc, Bool, false, if◌then◌else◌, List, [], ◌∷◌, ◌++◌, length}
use Rattle.std.specs.Str.{encode_utf8_all}
use Rattle.rnc_model.specs.characters.Decoding.{Decodes, IsSpelling}
use Rattle.rnc_model.specs.declared.character.Character.{Character}
use Rattle.rnc_model.specs.declared.file_place.FilePlace.{FilePlace}

abbrev pub starts_with_line_feed : List ℕ → Bool
starts_with_line_feed [] = false
starts_with_line_feed (c ∷ cs) = c == 0xA

-- a line ends after a character that these characters follow: after an LF, and after a CR without an LF after it
abbrev pub ends_line : ℕ → List ℕ → Bool
ends_line c rest = (c == 0xA) || ((c == 0xD) && not (starts_with_line_feed rest))

-- The line and the column after these characters, which the others follow. The first of these characters is at the
-- given line and column. After a line end the next line begins, and after any other character the next column.
unfoldable pub position : ℕ → ℕ → List ℕ → List ℕ → ℕ × ℕ
position line column [] after = (line, column)
position line column (c ∷ before) after =
    if ends_line c (before ++ after) then position (suc line) 1 before after else position line (suc column) before after

-- the place between these characters of a file and those after them
pub record IsPlaceBetween (before after : List ℕ) (p : FilePlace) : Type 0 where
  pub offset_is : p.offset ≡ length (encode_utf8_all before)
  pub position_is : position 1 1 before after ≡ (p.line, p.column)

-- the place after these decoded characters, which are the first of the file
pub record IsPlaceBehind (bytes : List ℕ) (front : List Character) (p : FilePlace) : Type 0 where
  pub before : List ℕ
  pub after : List ℕ
  pub spelling : IsSpelling bytes (before ++ after)
  pub decoded : Decodes (before ++ after) front after
  pub is : IsPlaceBetween before after p

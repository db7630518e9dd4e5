-- From the bytes of a document to its text (XML 1.0 Fifth Edition, sections 2.2, 2.11 and 4.3.3). The bytes are UTF-8, or
-- UTF-16 behind a byte order mark; nothing outside them says which. A text is a list of characters, and a character is its
-- Unicode number.
use Rattle.std.specs.Prelude.{ℕ, ◌==◌, ◌/◌, ◌%◌, Bool, true, false, if◌then◌else◌, List, [], ◌∷◌, Option, None, Some, ◌≡◌, codes}
use Rattle.std.specs.List.{list_all, flat_map, starts_with}
use Rattle.std.specs.Char.Escape.{encode_utf16}
use Rattle.std.specs.Str.{encode_utf8_all, str_eq_ignore_ascii_case}
use Rattle.rng_model.specs.names.Names.{is_xml_char}

-- ---- encodings

-- how characters are written as bytes; UTF-16 may have the high byte of a unit first
pub data Coding : Type 0 where
  utf8 : Coding
  utf16 : Bool → Coding

abbrev pub unit_bytes : Bool → ℕ → List ℕ
unit_bytes true u = (u / 0x100) ∷ (u % 0x100) ∷ []
unit_bytes false u = (u % 0x100) ∷ (u / 0x100) ∷ []

abbrev pub bytes_in : Coding → List ℕ → List ℕ
bytes_in utf8 cs = encode_utf8_all cs
bytes_in (utf16 high_first) cs = flat_map (unit_bytes high_first) (flat_map encode_utf16 cs)

-- The bytes are these characters in this coding. The byte order mark (U+FEFF) is no part of the document. UTF-16 begins
-- with it, UTF-8 may (section 4.3.3).
pub data IsEncoded : Coding → List ℕ → List ℕ → Type 0 where
  marked : {coding : Coding} {bytes cs : List ℕ} → bytes ≡ bytes_in coding (0xFEFF ∷ cs) → IsEncoded coding bytes cs
  unmarked : {bytes cs : List ℕ} → bytes ≡ bytes_in utf8 cs → IsEncoded utf8 bytes cs

-- Whether a document in this coding may have this encoding declaration, or none: the declaration names the coding, and
-- what has no declaration is in UTF-8 or has a mark. Names are compared without regard to case (section 4.3.3).
abbrev pub may_declare : Coding → Option (List ℕ) → Bool
may_declare coding None = true
may_declare utf8 (Some name) = str_eq_ignore_ascii_case name (codes "UTF-8")
may_declare (utf16 high_first) (Some name) = str_eq_ignore_ascii_case name (codes "UTF-16")

-- ---- ends of lines

-- CR LF, and CR without an LF behind it, are one LF (section 2.11)
unfoldable pub line_ends : List ℕ → List ℕ
line_ends [] = []
line_ends (c ∷ cs) = if c == 0xD then (if starts_with (◌==◌) cs (0xA ∷ []) then line_ends cs else 0xA ∷ line_ends cs) else c ∷ line_ends cs

-- the bytes are a text in this coding: each character is a Char (production 2), and ends of lines are LF
pub record IsText (coding : Coding) (bytes text : List ℕ) : Type 0 where
  pub written : List ℕ
  pub is_encoded : IsEncoded coding bytes written
  pub chars : list_all is_xml_char written ≡ true
  pub text_is : text ≡ line_ends written

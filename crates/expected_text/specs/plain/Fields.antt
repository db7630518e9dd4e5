-- Fields, character by character.
use Rattle.std.specs.Prelude.{ℕ, ◌==◌, if◌then◌else◌, List, [], ◌∷◌, codes}
use Rattle.std.specs.Char.{encode_utf8}

-- the escape of a character, or else this
abbrev pub escape_or : List ℕ → ℕ → List ℕ
escape_or w c =
    if c == 0x5C then 0x5C ∷ 0x5C ∷ [] else (
    if c == 0xA then 0x5C ∷ codes "n" else (
    if c == 0xD then 0x5C ∷ codes "r" else (
    if c == 0x9 then 0x5C ∷ codes "t" else (
    if c == 0x20 then 0x5C ∷ codes "s" else w))))

abbrev pub escaped_char : ℕ → List ℕ
escaped_char c = escape_or (encode_utf8 c) c

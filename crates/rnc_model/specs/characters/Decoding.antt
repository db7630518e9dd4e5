-- From the bytes of a file to characters (RELAX NG Compact Syntax, "Lexical structure"). The bytes are UTF-8. A CR LF,
-- a CR and an LF are one line end each. An escape `\x{H}` represents the character with the number H. A CR or LF that
-- an escape writes does not end a line.
use Rattle.std.specs.Prelude.{ℕ, List, map, length, ◌≡◌, ◌==◌, ◌≢◌, ◌+◌, ◌*◌, ◌<◌, ◌≤◌, true, [], ◌∷◌, ◌++◌, Some}
use Rattle.std.specs.Str.{encode_utf8_all, IsUtf8, IsValidUpTo, all_scalars}
use Rattle.rnc_model.specs.declared.character.Character.{Character}
use Rattle.rnc_model.specs.declared.character.Character.TheVariants.{LineEnd, Ordinary}
use Rattle.std.specs.List.{fold, list_all, slice_get}
use Rattle.std.specs.Char.{is_digit, digit_value}
use Rattle.rng_model.specs.names.Names.{is_xml_char}

-- the Unicode number of a character in the decoded text, in which a line end is an LF
abbrev pub number_of : Character → ℕ
number_of LineEnd = 10
number_of (Ordinary c) = c

abbrev pub numbers_of : List Character → List ℕ
numbers_of cs = map number_of cs

-- the decoded text of some characters, in UTF-8
abbrev pub bytes_of : List Character → List ℕ
bytes_of cs = encode_utf8_all (numbers_of cs)

-- the number of bytes of the decoded text of some characters
abbrev pub byte_length : List Character → ℕ
byte_length cs = length (bytes_of cs)

-- one to six hexadecimal digits, of either case
pub record AreDigits (digits : List ℕ) : Type 0 where
  pub some : 0 < length digits
  pub most : length digits ≤ 6
  pub are_hexadecimal : list_all (λ c. is_digit c 16) digits ≡ true

-- their number
abbrev pub hexadecimal : List ℕ → ℕ
hexadecimal digits = fold (λ n c. n * 16 + digit_value c) 0 digits

-- the numbers begin with `\`, one or more `x`, and `{`, so an escape begins here, whether it is good or bad
pub record OpensEscape (numbers : List ℕ) : Type 0 where
  pub more : List ℕ
  pub rest : List ℕ
  pub are_x : list_all (λ c. c == 0x78) more ≡ true
  pub is : numbers ≡ 0x5C ∷ 0x78 ∷ (more ++ 0x7B ∷ rest)

-- The Unicode numbers begin with a character, and the rest follows it.
pub data Begins : List ℕ → Character → List ℕ → Type 0 where
  -- a CR LF is one line end
  carriage_return_line_feed : {numbers rest : List ℕ} → numbers ≡ 0xD ∷ 0xA ∷ rest → Begins numbers LineEnd rest
  -- a CR without an LF after it is a line end
  carriage_return : {numbers rest : List ℕ} → numbers ≡ 0xD ∷ rest → slice_get rest 0 ≢ Some 0xA → Begins numbers LineEnd rest
  -- an LF is a line end
  line_feed : {numbers rest : List ℕ} → numbers ≡ 0xA ∷ rest → Begins numbers LineEnd rest
  -- `\x{`, digits and `}` are the Char with that number (XML 1.0 Fifth Edition, section 2.2)
  escape : {numbers : List ℕ} {c : ℕ} {rest : List ℕ} {digits : List ℕ} → AreDigits digits → c ≡ hexadecimal digits → is_xml_char c ≡ true
      → numbers ≡ 0x5C ∷ 0x78 ∷ 0x7B ∷ (digits ++ 0x7D ∷ rest) → Begins numbers (Ordinary c) rest
  -- any other Char, if no escape begins here
  other : {numbers : List ℕ} {c : ℕ} {rest : List ℕ} → c ≢ 0xD → c ≢ 0xA → is_xml_char c ≡ true → ¬ (OpensEscape numbers) → numbers ≡ c ∷ rest
      → Begins numbers (Ordinary c) rest

-- the numbers begin with these characters, one after the other, and the rest follows them
pub data Decodes : List ℕ → List Character → List ℕ → Type 0 where
  here : {numbers rest : List ℕ} → numbers ≡ rest → Decodes numbers [] rest
  next_is : {numbers : List ℕ} {all : List Character} {rest : List ℕ} {c : Character} {after : List ℕ} {cs : List Character} → Begins numbers c after
      → Decodes after cs rest → all ≡ c ∷ cs → Decodes numbers all rest

-- the bytes are the UTF-8 of these numbers
pub record IsSpelling (bytes : List ℕ) (numbers : List ℕ) : Type 0 where
  pub scalars : all_scalars numbers ≡ true
  pub spelled : encode_utf8_all numbers ≡ bytes

-- the bytes of a file represent these characters
pub record IsDecoded (bytes : List ℕ) (characters : List Character) : Type 0 where
  pub numbers : List ℕ
  pub spelling : IsSpelling bytes numbers
  pub decoded : Decodes numbers characters []

-- clause S3: the bytes are not UTF-8, and the longest front that is UTF-8 ends at the offset
abbrev pub BreaksUtf8At : List ℕ → ℕ → Type 0
BreaksUtf8At bytes offset = ¬ (IsUtf8 bytes) × IsValidUpTo bytes offset

-- clause S4: the bytes are UTF-8, they are characters up to the offset, and no character begins at the offset
pub record BreaksCharactersAt (bytes : List ℕ) (offset : ℕ) : Type 0 where
  pub numbers : List ℕ
  pub spelling : IsSpelling bytes numbers
  pub front : List Character
  pub rest : List ℕ
  pub decoded : Decodes numbers front rest
  pub some : 0 < length rest
  pub nothing : (c : Character) (after : List ℕ) → ¬ (Begins rest c after)
  pub offset_is : offset + length (encode_utf8_all rest) ≡ length bytes

-- Marks: words, names, segments, signs, single spaces and line ends. A text of marks, each separated from the next, is
-- cut into exactly their pieces (RELAX NG Compact Syntax, "Lexical structure").
use Rattle.std.specs.Prelude.{◌≡◌, ℕ, Bool, true, false, not, ◌&&◌, ◌||◌, ◌==◌, List, [], ◌∷◌, ◌++◌, map, flat_map, codes}
use Rattle.std.specs.Char.{IsScalar}
use Rattle.std.specs.List.{list_all}
use Rattle.std.specs.Str.{encode_utf8_all, all_scalars}
use Rattle.rng_model.specs.names.Names.{is_ncname, is_xml_char}
use Rattle.rnc_model.specs.declared.character.Character.{Character}
use Rattle.rnc_model.specs.declared.character.Character.TheVariants.{LineEnd, Ordinary}
use Rattle.rnc_model.specs.declared.token.Sign.{Sign}
use Rattle.rnc_model.specs.declared.token.Sign.TheVariants as signs
use Rattle.rnc_model.specs.declared.token.TokenKind.TheVariants as kinds
use Rattle.rnc_model.specs.tokens.Cut.{Cuts}
use Rattle.rnc_model.specs.characters.Decoding.{Begins, IsDecoded}
use Rattle.rnc_model.specs.tokens.Tokens.{Piece, gap, token, word_kind, is_quote}

pub data Mark : Type 0 where
  space : Mark
  line_end : Mark
  word : List ℕ → Mark
  cname : List ℕ → List ℕ → Mark
  ns_name : List ℕ → Mark
  -- the quote, and the text between two quotes
  segment : ℕ → List ℕ → Mark
  sign : Sign → Mark

abbrev pub sign_text : Sign → List ℕ
sign_text signs.Equal = codes "="
sign_text signs.BarEqual = codes "|="
sign_text signs.AndEqual = codes "&="
sign_text signs.Comma = codes ","
sign_text signs.Bar = codes "|"
sign_text signs.And = codes "&"
sign_text signs.Question = codes "?"
sign_text signs.Star = codes "*"
sign_text signs.Plus = codes "+"
sign_text signs.Minus = codes "-"
sign_text signs.OpenBrace = codes "{"
sign_text signs.CloseBrace = codes "}"
sign_text signs.OpenParenthesis = codes "("
sign_text signs.CloseParenthesis = codes ")"
sign_text signs.OpenBracket = codes "["
sign_text signs.CloseBracket = codes "]"
sign_text signs.Tilde = codes "~"

-- ---- how they are written

-- A Char is read back from what is written for it within quotes, whatever follows (XML 1.0 Fifth Edition, section 2.2).
pub record IsReadBack (written : ℕ → List ℕ) : Type 0 where
  pub scalars : (c : ℕ) → IsScalar c → all_scalars (written c) ≡ true
  pub begins : (c : ℕ) (rest : List ℕ) → is_xml_char c ≡ true → Begins (written c ++ rest) (Ordinary c) rest

module _ (written : ℕ → List ℕ) where
  -- the text of a mark, if characters within quotes are written so
  abbrev pub mark_text : Mark → List ℕ
  mark_text space = 0x20 ∷ []
  mark_text line_end = 0xA ∷ []
  mark_text (word w) = w
  mark_text (cname p l) = p ++ 0x3A ∷ l
  mark_text (ns_name p) = p ++ 0x3A ∷ 0x2A ∷ []
  mark_text (segment quote w) = quote ∷ (flat_map written w ++ quote ∷ [])
  mark_text (sign s) = sign_text s

  abbrev pub text_of_marks : List Mark → List ℕ
  text_of_marks ms = flat_map mark_text ms

-- ---- the characters and the pieces of marks whose texts are Unicode numbers

abbrev pub ordinary : List ℕ → List Character
ordinary w = map (λ c. Ordinary c) w

abbrev pub characters_of_mark : Mark → List Character
characters_of_mark space = Ordinary 0x20 ∷ []
characters_of_mark line_end = LineEnd ∷ []
characters_of_mark (word w) = ordinary w
characters_of_mark (cname p l) = ordinary p ++ Ordinary 0x3A ∷ ordinary l
characters_of_mark (ns_name p) = ordinary p ++ Ordinary 0x3A ∷ Ordinary 0x2A ∷ []
characters_of_mark (segment quote w) = Ordinary quote ∷ (ordinary w ++ Ordinary quote ∷ [])
characters_of_mark (sign s) = ordinary (sign_text s)

abbrev pub characters_of_marks : List Mark → List Character
characters_of_marks ms = flat_map characters_of_mark ms

abbrev pub piece_of_mark : Mark → Piece
piece_of_mark space = gap (Ordinary 0x20 ∷ [])
piece_of_mark line_end = gap (LineEnd ∷ [])
piece_of_mark (word w) = token (word_kind (ordinary w)) (ordinary w) (ordinary w)
piece_of_mark (cname p l) = token kinds.CName (ordinary p ++ Ordinary 0x3A ∷ ordinary l) (ordinary p ++ Ordinary 0x3A ∷ ordinary l)
piece_of_mark (ns_name p) = token kinds.NsName (ordinary p ++ Ordinary 0x3A ∷ Ordinary 0x2A ∷ []) (ordinary p ++ Ordinary 0x3A ∷ Ordinary 0x2A ∷ [])
piece_of_mark (segment quote w) = token kinds.Segment (ordinary w) (Ordinary quote ∷ (ordinary w ++ Ordinary quote ∷ []))
piece_of_mark (sign s) = token (kinds.Sign s) (ordinary (sign_text s)) (ordinary (sign_text s))

-- ---- which marks are read back

-- a Char other than the quote
abbrev pub is_within : ℕ → ℕ → Bool
is_within quote c = is_xml_char c && not (c == quote)

-- names are NCNames, and a segment consists of Chars other than its quote
abbrev pub IsMark : Mark → Type 0
IsMark (word w) = is_ncname w ≡ true
IsMark (cname p l) = (is_ncname p ≡ true) × (is_ncname l ≡ true)
IsMark (ns_name p) = is_ncname p ≡ true
IsMark (segment quote w) = (is_quote quote ≡ true) × (list_all (is_within quote) w ≡ true)
IsMark space = Unit {0}
IsMark line_end = Unit {0}
IsMark (sign s) = Unit {0}

-- any mark may follow this one
abbrev pub is_open : Mark → Bool
is_open space = true
is_open line_end = true
is_open (sign signs.OpenParenthesis) = true
is_open _ = false

-- may follow any mark: a space, a line end, `,`, `+` or `)`
abbrev pub is_apart : Mark → Bool
is_apart space = true
is_apart line_end = true
is_apart (sign signs.Comma) = true
is_apart (sign signs.Plus) = true
is_apart (sign signs.CloseParenthesis) = true
is_apart _ = false

-- may follow any mark: no marks, or a first mark that may
abbrev pub begins_apart : List Mark → Bool
begins_apart [] = true
begins_apart (m ∷ ms) = is_apart m

-- each is a mark, and may be followed by the next one
abbrev pub AreParted : List Mark → Type 0
AreParted [] = Unit {0}
AreParted (m ∷ ms) = IsMark m × ((is_open m || begins_apart ms) ≡ true) × AreParted ms

-- ---- what holds of them

-- marks are cut into their pieces
abbrev pub MarksAreCut : Type 0
MarksAreCut = (ms : List Mark) → AreParted ms → Cuts (characters_of_marks ms) (map piece_of_mark ms) []

-- the UTF-8 of their text decodes to their characters
abbrev pub MarksAreDecoded : Type 0
MarksAreDecoded = (written : ℕ → List ℕ) → IsReadBack written → (ms : List Mark) → AreParted ms
    → IsDecoded (encode_utf8_all (text_of_marks written ms)) (characters_of_marks ms)

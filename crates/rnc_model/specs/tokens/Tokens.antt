-- Which characters are a blank, a comment or a token (RELAX NG Compact Syntax, "Lexical structure"). There are no
-- documentation comments and no `>>`: `##` begins a comment, as `#` does.
use Rattle.std.specs.Prelude.{◌≡◌, ℕ, Bool, true, false, not, ◌||◌, ◌==◌, if◌then◌else◌, List, [], ◌∷◌, ◌++◌, Option, Some, None, codes}
use Rattle.std.specs.List.{list_all}
use Rattle.std.specs.Str.{bytes_eq}
use Rattle.rng_model.specs.names.Names.{is_ncname}
use Rattle.rnc_model.specs.characters.Decoding.{numbers_of, bytes_of}
use Rattle.rnc_model.specs.declared.character.Character.{Character}
use Rattle.rnc_model.specs.declared.character.Character.TheVariants.{LineEnd, Ordinary}
use Rattle.rnc_model.specs.declared.token.Keyword.{Keyword}
use Rattle.rnc_model.specs.declared.token.Keyword.TheVariants as keywords
use Rattle.rnc_model.specs.declared.token.Sign.{Sign}
use Rattle.rnc_model.specs.declared.token.Sign.TheVariants as signs
use Rattle.rnc_model.specs.declared.token.TokenKind.{TokenKind}
use Rattle.rnc_model.specs.declared.token.TokenKind.TheVariants as kinds

-- A piece of a text: a blank or a comment, which is only a gap; or a token of a kind, with its text. The last argument
-- is all of its characters.
pub data Piece : Type 0 where
  gap : List Character → Piece
  token : TokenKind → List Character → List Character → Piece

abbrev pub characters_in : Piece → List Character
characters_in (gap all) = all
characters_in (token kind says all) = all

-- the words that are keywords
abbrev pub keyword_table : List (List ℕ × Keyword)
keyword_table =
    (codes "attribute", keywords.Attribute) ∷ (codes "default", keywords.Default) ∷ (codes "datatypes", keywords.Datatypes) ∷
    (codes "div", keywords.Div) ∷ (codes "element", keywords.Element) ∷ (codes "empty", keywords.Empty) ∷
    (codes "external", keywords.External) ∷ (codes "grammar", keywords.Grammar) ∷ (codes "include", keywords.Include) ∷
    (codes "inherit", keywords.Inherit) ∷ (codes "list", keywords.List) ∷ (codes "mixed", keywords.Mixed) ∷
    (codes "namespace", keywords.Namespace) ∷ (codes "notAllowed", keywords.NotAllowed) ∷ (codes "parent", keywords.Parent) ∷
    (codes "start", keywords.Start) ∷ (codes "string", keywords.String) ∷ (codes "text", keywords.Text) ∷
    (codes "token", keywords.Token) ∷ []

-- the signs
abbrev pub sign_table : List (List ℕ × Sign)
sign_table =
    (codes "=", signs.Equal) ∷ (codes "|=", signs.BarEqual) ∷ (codes "&=", signs.AndEqual) ∷ (codes ",", signs.Comma) ∷
    (codes "|", signs.Bar) ∷ (codes "&", signs.And) ∷ (codes "?", signs.Question) ∷ (codes "*", signs.Star) ∷
    (codes "+", signs.Plus) ∷ (codes "-", signs.Minus) ∷ (codes "{", signs.OpenBrace) ∷ (codes "}", signs.CloseBrace) ∷
    (codes "(", signs.OpenParenthesis) ∷ (codes ")", signs.CloseParenthesis) ∷ (codes "[", signs.OpenBracket) ∷
    (codes "]", signs.CloseBracket) ∷ (codes "~", signs.Tilde) ∷ []

-- what a table has for a text
abbrev pub look_up : {A : Type 0} → List ℕ → List (List ℕ × A) → Option A
look_up text [] = None
look_up text (row ∷ rows) = if bytes_eq text row.0 then Some row.1 else look_up text rows

unfoldable pub keyword_of : List ℕ → Option Keyword
keyword_of text = look_up text keyword_table

unfoldable pub sign_of : List ℕ → Option Sign
sign_of text = look_up text sign_table

abbrev pub keyword_or_identifier : Option Keyword → TokenKind
keyword_or_identifier None = kinds.Identifier
keyword_or_identifier (Some keyword) = kinds.Keyword keyword

-- a word is a keyword, or otherwise an identifier
abbrev pub word_kind : List Character → TokenKind
word_kind word = keyword_or_identifier (keyword_of (bytes_of word))

-- a space, a tab or a line end
abbrev pub is_blank_character : Character → Bool
is_blank_character LineEnd = true
is_blank_character (Ordinary c) = (c == 0x20) || (c == 0x9)

-- any character except a line end
abbrev pub is_in_line : Character → Bool
is_in_line LineEnd = false
is_in_line (Ordinary c) = true

-- any character except a line end and the quote
abbrev pub is_in_segment : ℕ → Character → Bool
is_in_segment quote LineEnd = false
is_in_segment quote (Ordinary c) = not (c == quote)

-- a quotation mark or an apostrophe
abbrev pub is_quote : ℕ → Bool
is_quote c = (c == 0x22) || (c == 0x27)

-- an NCName (Namespaces in XML 1.0, section 3)
abbrev pub IsNcname : List Character → Type 0
IsNcname name = is_ncname (numbers_of name) ≡ true

-- three quotes, and what follows them
abbrev pub three : ℕ → List Character → List Character
three quote rest = Ordinary quote ∷ Ordinary quote ∷ Ordinary quote ∷ rest

-- in the content followed by three quotes, no three quotes come before these
abbrev pub IsUpToThree : ℕ → List Character → Type 0
IsUpToThree quote content = (front rest : List Character) → content ++ three quote [] ≡ front ++ three quote rest → rest ≡ []

-- The characters of the piece are a blank, a comment or a token. The cut says how long it is: a comment is any `#` with
-- some characters of its line.
pub data IsGapOrToken : Piece → Type 0 where
  blank : {c : Character} → is_blank_character c ≡ true → IsGapOrToken (gap (c ∷ []))
  comment : {all : List Character} {cs : List Character} → list_all is_in_line cs ≡ true → all ≡ Ordinary 0x23 ∷ cs → IsGapOrToken (gap all)
  word : {kind : TokenKind} {all : List Character} → IsNcname all → kind ≡ word_kind all → IsGapOrToken (token kind all all)
  quoted_identifier : {name all : List Character} → IsNcname name → all ≡ Ordinary 0x5C ∷ name → IsGapOrToken (token kinds.QuotedIdentifier name all)
  cname : {all : List Character} (prefix local : List Character) → IsNcname prefix → IsNcname local → all ≡ prefix ++ Ordinary 0x3A ∷ local
      → IsGapOrToken (token kinds.CName all all)
  nsname : {all : List Character} (prefix : List Character) → IsNcname prefix → all ≡ prefix ++ Ordinary 0x3A ∷ Ordinary 0x2A ∷ []
      → IsGapOrToken (token kinds.NsName all all)
  segment : {content all : List Character} (quote : ℕ) → is_quote quote ≡ true → list_all (is_in_segment quote) content ≡ true
      → all ≡ Ordinary quote ∷ (content ++ Ordinary quote ∷ []) → IsGapOrToken (token kinds.Segment content all)
  triple_segment : {content all : List Character} (quote : ℕ) → is_quote quote ≡ true → IsUpToThree quote content
      → all ≡ three quote (content ++ three quote []) → IsGapOrToken (token kinds.TripleSegment content all)
  sign : {all : List Character} {s : Sign} → sign_of (numbers_of all) ≡ Some s → IsGapOrToken (token (kinds.Sign s) all all)

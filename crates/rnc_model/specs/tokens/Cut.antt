-- The cut of a text into blanks, comments and tokens, each the longest that begins at its offset
-- (RELAX NG Compact Syntax, "Lexical structure").
use Rattle.std.specs.Prelude.{◌≡◌, ℕ, ◌+◌, ◌<◌, ◌≤◌, List, [], ◌∷◌, ◌++◌, length}
use Rattle.rnc_model.specs.characters.Decoding.{bytes_of, byte_length}
use Rattle.rnc_model.specs.tokens.Tokens.{Piece, gap, token, characters_in, IsGapOrToken}
use Rattle.rnc_model.specs.declared.character.Character.{Character}
use Rattle.rnc_model.specs.declared.token.TokenKind.{TokenKind}
use Rattle.std.specs.List.{before_first, after_first}
use Rattle.rng_model.specs.names.Names.{is_colon}
use Rattle.rnc_model.specs.declared.token.Keyword.{Keyword}
use Rattle.rnc_model.specs.declared.token.Sign.{Sign}
use Rattle.rnc_model.specs.declared.token.TokenKind.TheVariants as kinds

-- the characters begin with the piece, the rest follows it, and no longer front of the characters is a piece
pub record IsNext (cs : List Character) (piece : Piece) (rest : List Character) : Type 0 where
  pub is : IsGapOrToken piece
  pub parts : cs ≡ characters_in piece ++ rest
  pub longest : (other : Piece) (after : List Character) → IsGapOrToken other → cs ≡ characters_in other ++ after
      → length (characters_in other) ≤ length (characters_in piece)

-- no piece begins
abbrev pub NothingBegins : List Character → Type 0
NothingBegins cs = (other : Piece) (after : List Character) → IsGapOrToken other → ¬ (cs ≡ characters_in other ++ after)

-- the characters are cut into these pieces, and the rest follows the last of them
pub data Cuts : List Character → List Piece → List Character → Type 0 where
  here : {cs rest : List Character} → cs ≡ rest → Cuts cs [] rest
  next_is : {cs : List Character} {all : List Piece} {rest : List Character} {piece : Piece} {after : List Character} {pieces : List Piece}
      → IsNext cs piece after → Cuts after pieces rest → all ≡ piece ∷ pieces → Cuts cs all rest

-- a token: its kind, its text, and the byte offsets in the decoded text where the whole token starts and ends
pub record Token : Type 0 where
  pub kind : TokenKind
  pub text : List ℕ
  pub starts : ℕ
  pub ends : ℕ

-- the tokens among pieces, the first of which starts at an offset
abbrev pub tokens_at : ℕ → List Piece → List Token
tokens_at start [] = []
tokens_at start (gap all ∷ pieces) = tokens_at (start + byte_length all) pieces
tokens_at start (token kind says all ∷ pieces) =
    record { kind = kind; text = bytes_of says; starts = start; ends = start + byte_length all } ∷ tokens_at (start + byte_length all) pieces

-- these are the tokens of the characters
pub record HasTokens (cs : List Character) (tokens : List Token) : Type 0 where
  pub pieces : List Piece
  pub cut : Cuts cs pieces []
  pub are : tokens ≡ tokens_at 0 pieces

-- clause S5: the characters up to the offset are cut, and nothing begins there
pub record BreaksTokensAt (cs : List Character) (offset : ℕ) : Type 0 where
  pub pieces : List Piece
  pub rest : List Character
  pub cut : Cuts cs pieces rest
  pub some : 0 < length rest
  pub nothing : NothingBegins rest
  pub offset_is : offset + byte_length rest ≡ byte_length cs

-- ---- the tokens of a file as the grammar reads them

-- the text of a keyword, and its number: the tokens of a file are numbered from 1
pub record Spelling : Type 0 where
  pub text : List ℕ
  pub number : ℕ

-- a token: a quoted identifier is an identifier, and a segment has no quotes
pub data Lexeme : Type 0 where
  keyword : Keyword → Spelling → Lexeme
  identifier : List ℕ → Lexeme
  cname : List ℕ → List ℕ → Lexeme
  ns_name : List ℕ → Lexeme
  segment : List ℕ → Lexeme
  sign : Sign → Lexeme

-- the prefix of a name: everything before its first colon
abbrev pub prefix_in : List ℕ → List ℕ
prefix_in w = before_first is_colon w

-- the local part of a name: everything after its first colon
abbrev pub local_in : List ℕ → List ℕ
local_in w = after_first is_colon w

-- the token of this kind, with this text and this number
abbrev pub lexeme_at : TokenKind → List ℕ → ℕ → Lexeme
lexeme_at kinds.Identifier w n = identifier w
lexeme_at (kinds.Keyword k) w n = keyword k (record { text = w; number = n })
lexeme_at kinds.QuotedIdentifier w n = identifier w
lexeme_at kinds.CName w n = cname (prefix_in w) (local_in w)
lexeme_at kinds.NsName w n = ns_name (prefix_in w)
lexeme_at kinds.Segment w n = segment w
lexeme_at kinds.TripleSegment w n = segment w
lexeme_at (kinds.Sign s) w n = sign s

-- tokens one after another, the first with this number
abbrev pub numbered : ℕ → List Token → List Lexeme
numbered n [] = []
numbered n (t ∷ ts) = lexeme_at t.kind t.text n ∷ numbered (n + 1) ts

-- all tokens of a file
abbrev pub lexemes : List Token → List Lexeme
lexemes ts = numbered 1 ts

-- The tokens of a file are well spelled.
use Rattle.std.proofs.Common.{◌≡◌, ◌∙◌, sym, subst, ap, ℕ, ◌+◌, List, [], ◌∷◌, ◌++◌, Option, Some, None, arith}
use Rattle.std.specs.List.{AllByRecursion}
use Rattle.std.proofs.lemmas.Str.{encode_ascii}
use Rattle.rnc_text.proofs.Cursors.{bytes_append}
use Rattle.rnc_model.specs.characters.Decoding.{numbers_of, bytes_of, IsDecoded}
use Rattle.rnc_model.specs.tokens.Cut.{Token, tokens_at, HasTokens, lexeme_at, numbered, lexemes, prefix_in, local_in}
use Rattle.rnc_model.specs.tokens.Tokens.{Piece, gap, token, characters_in, keyword_or_identifier, keyword_of, IsNcname, three, IsGapOrToken}
use Rattle.rnc_model.specs.tokens.Tokens as tokens
use Rattle.rnc_model.specs.declared.character.Character.{Character}
use Rattle.rnc_model.specs.declared.character.Character.TheVariants.{Ordinary}
use Rattle.rnc_model.specs.declared.token.Keyword.{Keyword}
use Rattle.rnc_model.specs.declared.token.TokenKind.{TokenKind}
use Rattle.rnc_print_laws.specs.plain.Printable.{IsName}
use Rattle.rnc_print_laws.proofs.Marks.Colons.{ncname_no_colon, before_colon}
use Rattle.rnc_print_laws.proofs.WellSpelled.FileCharacters.{AreChars, decoded_chars, chars_parts, chars_behind, text_of, name_of, IsCharPiece, cut_pieces}
use Rattle.rnc_print_laws.proofs.WellSpelled.RoomForBrackets.{IsWellSpelled}

-- ---- names with a colon

with_colon : (prefix rest : List Character) → bytes_of (prefix ++ Ordinary 0x3A ∷ rest) ≡ bytes_of prefix ++ 58 ∷ bytes_of rest
with_colon prefix rest =
    bytes_append prefix (Ordinary 0x3A ∷ rest) ∙ ap (λ (w : List ℕ). bytes_of prefix ++ (w ++ bytes_of rest)) (encode_ascii 58 (omega arith))

prefix_is : (prefix rest : List Character) → IsNcname prefix → prefix_in (bytes_of (prefix ++ Ordinary 0x3A ∷ rest)) ≡ bytes_of prefix
prefix_is prefix rest h = ap prefix_in (with_colon prefix rest) ∙ (before_colon (bytes_of prefix) (bytes_of rest) (ncname_no_colon (numbers_of prefix) h)).0

local_is : (prefix rest : List Character) → IsNcname prefix → local_in (bytes_of (prefix ++ Ordinary 0x3A ∷ rest)) ≡ bytes_of rest
local_is prefix rest h = ap local_in (with_colon prefix rest) ∙ (before_colon (bytes_of prefix) (bytes_of rest) (ncname_no_colon (numbers_of prefix) h)).1

-- ---- pieces

-- the token of the piece, if it is one, with a number
abbrev IsSpelledPiece : Piece → ℕ → Type 0
IsSpelledPiece (gap all) n = Unit {0}
IsSpelledPiece (token kind says all) n = IsWellSpelled (lexeme_at kind (bytes_of says) n)

word_spelled : (o : Option Keyword) (w : List ℕ) (n : ℕ) → IsName w → IsWellSpelled (lexeme_at (keyword_or_identifier o) w n)
word_spelled None w n h = h
word_spelled (Some k) w n h = h

piece_spelled : {p : Piece} → IsGapOrToken p → AreChars (characters_in p) → (n : ℕ) → IsSpelledPiece p n
piece_spelled (tokens.blank b) h n = tt
piece_spelled (tokens.comment c e) h n = tt
piece_spelled (tokens.word {kind} {all} i e) h n = subst (λ (k : TokenKind). IsWellSpelled (lexeme_at k (bytes_of all) n)) (sym e)
    (word_spelled (keyword_of (bytes_of all)) (bytes_of all) n (name_of all h i))
piece_spelled (tokens.quoted_identifier {name} {all} i e) h n = name_of name (chars_behind (Ordinary 0x5C) name (subst AreChars e h)) i
piece_spelled (tokens.cname {all} prefix local i j e) h n =
    let p = chars_parts prefix (Ordinary 0x3A ∷ local) (subst AreChars e h) in (
      subst IsName (sym (ap (λ (cs : List Character). prefix_in (bytes_of cs)) e ∙ prefix_is prefix local i)) (name_of prefix p.0 i),
      subst IsName (sym (ap (λ (cs : List Character). local_in (bytes_of cs)) e ∙ local_is prefix local i))
          (name_of local (chars_behind (Ordinary 0x3A) local p.1) j),
    )
piece_spelled (tokens.nsname {all} prefix i e) h n =
    let p = chars_parts prefix (Ordinary 0x3A ∷ Ordinary 0x2A ∷ []) (subst AreChars e h) in
    subst IsName (sym (ap (λ (cs : List Character). prefix_in (bytes_of cs)) e ∙ prefix_is prefix (Ordinary 0x2A ∷ []) i)) (name_of prefix p.0 i)
piece_spelled (tokens.segment {content} {all} quote q c e) h n =
    text_of content (chars_parts content (Ordinary quote ∷ []) (chars_behind (Ordinary quote) (content ++ Ordinary quote ∷ []) (subst AreChars e h))).0
piece_spelled (tokens.triple_segment {content} {all} quote q c e) h n =
    let a = chars_behind (Ordinary quote) (Ordinary quote ∷ Ordinary quote ∷ (content ++ three quote [])) (subst AreChars e h) in
    let b = chars_behind (Ordinary quote) (Ordinary quote ∷ (content ++ three quote [])) a in
    text_of content (chars_parts content (three quote []) (chars_behind (Ordinary quote) (content ++ three quote []) b)).0
piece_spelled (tokens.sign s) h n = tt

-- ---- tokens

pieces_spelled : (pieces : List Piece) (start n : ℕ) → AllByRecursion IsCharPiece pieces → AllByRecursion IsWellSpelled (numbered n (tokens_at start pieces))
pieces_spelled [] start n h = tt
pieces_spelled (gap all ∷ pieces) start n h = pieces_spelled pieces _ n h.1
pieces_spelled (token kind says all ∷ pieces) start n h = (piece_spelled h.0.0 h.0.1 n, pieces_spelled pieces _ (n + 1) h.1)

pub tokens_spelled : {bytes : List ℕ} {cs : List Character} {ts : List Token} → IsDecoded bytes cs → HasTokens cs ts
    → AllByRecursion IsWellSpelled (lexemes ts)
tokens_spelled {bytes} {cs} d has = subst (λ (ts : List Token). AllByRecursion IsWellSpelled (lexemes ts)) (sym has.are)
    (pieces_spelled has.pieces 0 1 (cut_pieces has.cut (decoded_chars bytes cs d)))

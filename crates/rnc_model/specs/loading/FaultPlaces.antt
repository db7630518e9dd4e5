-- The place where a file breaks a clause from 3 to 8.
use Rattle.std.specs.Prelude.{◌≡◌, ℕ, ◌+◌, ◌-◌, ◌<◌, ◌≤◌, List, [], take, slice_get, Some, None, ◌⊎◌, length}
use Rattle.rnc_model.specs.declared.character.Character.{Character}
use Rattle.rnc_model.specs.declared.file_place.FilePlace.{FilePlace}
use Rattle.rnc_model.specs.characters.Decoding.{byte_length, IsDecoded, IsSpelling, BreaksUtf8At, BreaksCharactersAt}
use Rattle.rnc_model.specs.characters.FilePlaces.{IsPlaceBetween, IsPlaceBehind}
use Rattle.rnc_model.specs.loading.SchemaFile.{BreaksDeclarations, AreTokensOf}
use Rattle.rnc_model.specs.grammar.Grammar as grammar
use Rattle.rnc_model.specs.grammar.Grammar.{IsFile}
use Rattle.rnc_model.specs.grammar.Syntax.{File}
use Rattle.rnc_model.specs.tokens.Cut.{Lexeme, lexemes, Token, BreaksTokensAt}
use Rattle.rnc_model.specs.declarations.FaultyTokens.{BreakDeclarationRule, IsBrokenDeclaration, IsUndeclaredPrefix, IsFirstAt, declaration_numbers, prefixes_in}
use Rattle.rnc_model.specs.declarations.TokenUses.{in_body}
use Rattle.rnc_model.specs.grammar.Sentence.{BreaksGrammarAt, nesting_limit, openings, closings}

-- the first declaration that breaks a rule begins at the token with this number; or the declarations break none, and it
-- is the first token whose prefix is not declared
abbrev pub IsFaultyToken : {ts : List Lexeme} {f : File} → IsFile ts f → ℕ → Type 0
IsFaultyToken (grammar.file {f = f} {a = a} ds body e) number = IsBrokenDeclaration (declaration_numbers 1 ds) f.declarations number
    ⊎ ((¬ (BreakDeclarationRule f.declarations)) × IsFirstAt (IsUndeclaredPrefix f.declarations) (length a) (prefixes_in (in_body body)) number)

-- the tokens break a rule about declarations, and the first fault is at the token with this number
pub record BreaksDeclarationsAt (ts : List Lexeme) (number : ℕ) : Type 0 where
  pub broken : BreaksDeclarations ts
  pub at : (f : File) (sentence : IsFile ts f) → IsFaultyToken sentence number

-- the place where the token with this number begins, counted from 1; if the number is one more than the number of
-- tokens, the end of the file
pub data IsPlaceOfToken (bytes : List ℕ) (ts : List Token) (number : ℕ) (p : FilePlace) : Type 0 where
  of_token : {t : Token} (front : List Character) → slice_get ts (number - 1) ≡ Some t → byte_length front ≡ t.starts → IsPlaceBehind bytes front p
      → IsPlaceOfToken bytes ts number p
  of_end : (characters : List Character) → slice_get ts (number - 1) ≡ None → IsDecoded bytes characters → IsPlaceBehind bytes characters p
      → IsPlaceOfToken bytes ts number p

-- the first token where the opening brackets up to it exceed the closing ones by more than the limit
pub record IsTooDeepAt (ts : List Lexeme) (number : ℕ) : Type 0 where
  pub positive : 0 < number
  pub exceeds : closings (take number ts) + nesting_limit < openings (take number ts)
  pub first : (k : ℕ) → k < number → openings (take k ts) ≤ closings (take k ts) + nesting_limit

-- the bytes break this clause, at this place
pub data BreaksClauseAt (bytes : List ℕ) (k : ℕ) (p : FilePlace) : Type 0 where
  -- the first byte that is not UTF-8
  not_utf8 : (front : List ℕ) → BreaksUtf8At bytes p.offset → IsSpelling (take p.offset bytes) front → IsPlaceBetween front [] p → k ≡ 3
      → BreaksClauseAt bytes k p
  -- the first character that XML does not have, or the first bad escape
  bad_characters : (front : List Character) → BreaksCharactersAt bytes p.offset → IsPlaceBehind bytes front p → k ≡ 4 → BreaksClauseAt bytes k p
  -- the end of the cut, where no blank, comment or token begins
  bad_tokens : (characters front : List Character) → IsDecoded bytes characters → BreaksTokensAt characters (byte_length front)
      → IsPlaceBehind bytes front p → k ≡ 5 → BreaksClauseAt bytes k p
  -- the first token up to which the tokens begin no sentence
  no_sentence : (ts : List Token) (number : ℕ) → AreTokensOf bytes ts → BreaksGrammarAt (lexemes ts) number → IsPlaceOfToken bytes ts number p → k ≡ 6
      → BreaksClauseAt bytes k p
  -- the first bracket that is too many
  too_deep : (ts : List Token) (number : ℕ) → AreTokensOf bytes ts → IsTooDeepAt (lexemes ts) number → IsPlaceOfToken bytes ts number p → k ≡ 7
      → BreaksClauseAt bytes k p
  -- the first declaration that breaks a rule, or otherwise the first prefix that is not declared
  bad_declarations : (ts : List Token) (number : ℕ) → AreTokensOf bytes ts → BreaksDeclarationsAt (lexemes ts) number → IsPlaceOfToken bytes ts number p
      → k ≡ 8 → BreaksClauseAt bytes k p

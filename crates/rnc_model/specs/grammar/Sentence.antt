-- Which tokens are a sentence that nests within the limit, and at which token they fail to be one.
use Rattle.std.specs.Prelude.{◌≡◌, ℕ, ◌+◌, ◌-◌, ◌<◌, ◌≤◌, Bool, true, false, List, length, take}
use Rattle.std.specs.List.{count_by}
use Rattle.rnc_model.specs.declared.token.Sign.TheVariants.{OpenBrace, CloseBrace, OpenParenthesis, CloseParenthesis}
use Rattle.rnc_model.specs.tokens.Cut.{Lexeme, sign}
use Rattle.rnc_model.specs.grammar.Syntax.{File}
use Rattle.rnc_model.specs.grammar.Grammar.{IsFile}

-- ---- nesting

-- `{` and `(`
abbrev pub is_opening : Lexeme → Bool
is_opening (sign OpenBrace) = true
is_opening (sign OpenParenthesis) = true
is_opening _ = false

-- `}` and `)`
abbrev pub is_closing : Lexeme → Bool
is_closing (sign CloseBrace) = true
is_closing (sign CloseParenthesis) = true
is_closing _ = false

-- the number of `{` and `(` among the tokens
abbrev pub openings : List Lexeme → ℕ
openings ts = count_by is_opening ts

-- the number of `}` and `)` among the tokens
abbrev pub closings : List Lexeme → ℕ
closings ts = count_by is_closing ts

-- the number of `{` and `(` that may be open
abbrev pub nesting_limit : ℕ
nesting_limit = 128

-- at each token, the opening brackets up to it exceed the closing ones up to it by at most the limit
abbrev pub NestsWithin : ℕ → List Lexeme → Type 0
NestsWithin limit ts = (k : ℕ) → openings (take k ts) ≤ closings (take k ts) + limit

-- at some token they exceed it (clause 7)
abbrev pub BreaksNesting : List Lexeme → Type 0
BreaksNesting ts = (k : ℕ) × (closings (take k ts) + nesting_limit < openings (take k ts))

-- ---- sentences

-- the tokens are a sentence of the grammar
abbrev pub IsSentence : List Lexeme → Type 0
IsSentence ts = (f : File) × IsFile ts f

-- a list that has the same tokens as this one, up to and including the token with this number; if this list has fewer
-- tokens, the lists are equal
abbrev pub BeginsAlike : ℕ → List Lexeme → List Lexeme → Type 0
BeginsAlike number ts us = (number ≤ length ts → take number us ≡ take number ts) × (length ts < number → us ≡ ts)

-- some sentence begins with this many of the tokens
abbrev pub BeginsSentence : ℕ → List Lexeme → Type 0
BeginsSentence count ts = (us : List Lexeme) × (take count us ≡ take count ts) × IsSentence us

-- The tokens are numbered from 1. Some sentence begins with the tokens before the one with this number, and none begins
-- with those up to and including it. If the number is one more than the number of tokens, they are no sentence.
pub record IsStuckAt (ts : List Lexeme) (number : ℕ) : Type 0 where
  pub positive : 0 < number
  pub within : number ≤ length ts + 1
  pub begins : BeginsSentence (number - 1) ts
  pub stuck : (us : List Lexeme) → BeginsAlike number ts us → ¬ IsSentence us

-- the tokens nest within the limit, and the one with this number is the first that no sentence can have there (clause 6)
pub record BreaksGrammarAt (ts : List Lexeme) (number : ℕ) : Type 0 where
  pub nesting : NestsWithin nesting_limit ts
  pub stuck : IsStuckAt ts number

-- Tokens that nest within the limit, and are a sentence or not.
use Rattle.rnc_model.specs.tokens.Cut.{Lexeme}
use Rattle.rnc_model.specs.grammar.Grammar.{IsFile}
use Rattle.rnc_model.specs.grammar.Sentence.{IsSentence, NestsWithin, nesting_limit}
use Rattle.rnc_model.specs.grammar.Syntax.{File}
use Rattle.std.specs.Prelude.{ℕ, List, [], ◌∷◌, ◌++◌}

-- the tokens nest within the limit and are no sentence (clause 6)
abbrev pub BreaksGrammar : List Lexeme → Type 0
BreaksGrammar ts = NestsWithin nesting_limit ts × ¬ IsSentence ts

-- the tokens nest within the limit, and this is their syntax tree
pub record IsSyntaxTree (ts : List Lexeme) (f : File) : Type 0 where
  pub nesting : NestsWithin nesting_limit ts
  pub sentence : IsFile ts f

-- the text of a literal: the texts of its segments, joined
abbrev pub joined_text : List (List ℕ) → List ℕ
joined_text [] = []
joined_text (w ∷ ws) = w ++ joined_text ws

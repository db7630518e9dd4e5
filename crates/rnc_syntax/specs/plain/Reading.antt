-- The tokens that a reader of the code has not read yet, as the grammar reads them.
use Rattle.std.specs.Prelude.{ℕ, ◌-◌, List, [], ◌∷◌, length}
use Rattle.rnc_model.specs.declared.token.Token.{Token}
use Rattle.rnc_model.specs.tokens.Cut.{Lexeme, lexeme_at}

-- The last tokens of a file that has `total` tokens. A token's number is the total without the tokens after it.
abbrev pub lexemes_in : ℕ → List Token → List Lexeme
lexemes_in total [] = []
lexemes_in total (t ∷ ts) = lexeme_at t.kind t.text.now (total - length ts) ∷ lexemes_in total ts

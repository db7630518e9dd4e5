-- The tokens of marks, each word with its number (RELAX NG Compact Syntax, "Lexical structure").
use Rattle.std.specs.Prelude.{ℕ, suc, List, [], ◌∷◌}
use Rattle.rnc_model.specs.tokens.Tokens.{keyword_of, keyword_or_identifier}
use Rattle.rnc_model.specs.tokens.Cut.{Lexeme, lexeme_at}
use Rattle.rnc_model.specs.tokens.Cut as lexeme
use Rattle.rnc_text.specs.plain.Marks.{Mark, space, line_end, word, cname, ns_name, segment, sign}

-- a word that is the token with this number
abbrev pub word_at : List ℕ → ℕ → Lexeme
word_at w n = lexeme_at (keyword_or_identifier (keyword_of w)) w n

-- the tokens of these marks, if the first has this number
abbrev pub lexemes_from : ℕ → List Mark → List Lexeme
lexemes_from n [] = []
lexemes_from n (space ∷ ms) = lexemes_from n ms
lexemes_from n (line_end ∷ ms) = lexemes_from n ms
lexemes_from n (word w ∷ ms) = word_at w n ∷ lexemes_from (suc n) ms
lexemes_from n (cname p l ∷ ms) = lexeme.cname p l ∷ lexemes_from (suc n) ms
lexemes_from n (ns_name p ∷ ms) = lexeme.ns_name p ∷ lexemes_from (suc n) ms
lexemes_from n (segment q w ∷ ms) = lexeme.segment w ∷ lexemes_from (suc n) ms
lexemes_from n (sign s ∷ ms) = lexeme.sign s ∷ lexemes_from (suc n) ms

-- the number of the token after them
abbrev pub place_behind : ℕ → List Mark → ℕ
place_behind n [] = n
place_behind n (space ∷ ms) = place_behind n ms
place_behind n (line_end ∷ ms) = place_behind n ms
place_behind n (word w ∷ ms) = place_behind (suc n) ms
place_behind n (cname p l ∷ ms) = place_behind (suc n) ms
place_behind n (ns_name p ∷ ms) = place_behind (suc n) ms
place_behind n (segment q w ∷ ms) = place_behind (suc n) ms
place_behind n (sign s ∷ ms) = place_behind (suc n) ms

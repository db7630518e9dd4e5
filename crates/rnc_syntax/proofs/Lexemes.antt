-- The tokens that a reader has not read yet, compared to all tokens of a file.
use Rattle.std.proofs.Common.{◌≡◌, ℕ, suc, ◌+◌, ◌-◌, List, [], ◌∷◌, length, refl, ap, ◌∙◌, arith}
use Rattle.rnc_model.specs.tokens.CutTokens.{tokens_of}
use Rattle.rnc_model.specs.declared.token.Token.{Token}
use Rattle.rnc_model.specs.tokens.Cut.{Lexeme, lexeme_at, lexemes, numbered}
use Rattle.rnc_syntax.specs.plain.Reading.{lexemes_in}

-- the number of tokens
pub length_of_lexemes : (n : ℕ) (ts : List Token) → length (lexemes_in n ts) ≡ length ts
length_of_lexemes n [] = refl
length_of_lexemes n (t ∷ ts) = ap suc (length_of_lexemes n ts)

numbered_in : (n total : ℕ) (ts : List Token) → n + length ts ≡ total + 1 → numbered n (tokens_of ts) ≡ lexemes_in total ts
numbered_in n total [] e = refl
numbered_in n total (t ∷ ts) e =
    let number : n ≡ total - length ts = omega (arith, e) in
    ap (λ (k : ℕ). lexeme_at t.kind t.text.now k ∷ numbered (n + 1) (tokens_of ts)) number
    ∙ ap (λ (x : List Lexeme). lexeme_at t.kind t.text.now (total - length ts) ∷ x) (numbered_in (n + 1) total ts (omega (arith, e)))

-- numbering from the first token up agrees with numbering from the last token down
pub all_lexemes : (ts : List Token) → lexemes (tokens_of ts) ≡ lexemes_in (length ts) ts
all_lexemes ts = numbered_in 1 (length ts) ts (omega arith)

pub count_of_lexemes : (ts : List Token) → length (lexemes (tokens_of ts)) ≡ length ts
count_of_lexemes ts = ap length (all_lexemes ts) ∙ length_of_lexemes (length ts) ts

-- A datatype at the front of a pattern, as the code reads it: first the datatype, and then what it excludes.
use Rattle.std.specs.Prelude.{List, Option, None, Ok}
use Rattle.rnc_model.specs.declared.token.Sign.TheVariants.{Minus}
use Rattle.rnc_model.specs.grammar.Syntax as syntax
use Rattle.rnc_model.specs.grammar.Syntax.{written, PatternAt}
use Rattle.rnc_model.specs.tokens.Cut.{Lexeme}
use Rattle.rnc_syntax.specs.plain.Combinators.{Outcome, ◌>>=◌, either_way, follow}
use Rattle.rnc_syntax.specs.plain.Productions.{Inside, data_front, primary_with}

-- a datatype that excludes a pattern; nothing is excluded from any other pattern
abbrev pub excluding : PatternAt written → PatternAt written → PatternAt written
excluding (syntax.data_of d ps) e = syntax.data_except d ps e
excluding t e = t

-- the tokens after `-`, if it follows a pattern that begins with a datatype
abbrev pub exclusion_front : List Lexeme → List Lexeme → Option (List Lexeme)
exclusion_front ts us = either_way (data_front ts) None (λ d. follow Minus us)

-- a pattern and what is excluded from it, after the `-`
abbrev pub excluded_with : Inside → PatternAt written → List Lexeme → Outcome (PatternAt written)
excluded_with inside t ts = primary_with inside ts >>= λ e. Ok (excluding t e.0, e.1)

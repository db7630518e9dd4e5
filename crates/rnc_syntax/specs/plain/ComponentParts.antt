-- Components after the keyword that they begin with, as functions of the tokens after it.
use Rattle.std.specs.Prelude.{ℕ, List, Ok}
use Rattle.rnc_model.specs.grammar.Syntax as syntax
use Rattle.rnc_model.specs.grammar.Syntax.{written, ComponentAt}
use Rattle.rnc_model.specs.grammar.Grammar.{Setting}
use Rattle.rnc_model.specs.tokens.Cut.{Lexeme}
use Rattle.rnc_syntax.specs.plain.Combinators.{Outcome, ◌>>=◌}
use Rattle.rnc_syntax.specs.plain.Productions.{Inside, contents_with, mention_at, overrides_with}

-- a div after its keyword
abbrev pub div_with : Inside → Setting → List Lexeme → Outcome (ComponentAt written)
div_with inside w ts = contents_with inside w ts >>= λ cs. Ok (syntax.div (syntax.components_of cs.0), cs.1)

-- an include after its keyword, which has this number
abbrev pub include_with : Inside → ℕ → List Lexeme → Outcome (ComponentAt written)
include_with inside number ts = mention_at number ts >>= λ m. overrides_with inside m.1 >>= λ cs. Ok (syntax.include m.0 (syntax.components_of cs.0), cs.1)

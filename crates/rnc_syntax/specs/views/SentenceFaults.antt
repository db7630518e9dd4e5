-- Which tokens are a sentence that nests within the limit, and where they are none.
use Rattle.std.specs.Prelude.{List}
use Rattle.rnc_syntax.specs.declared.fault.SyntaxFault.{SyntaxFault}
use Rattle.rnc_syntax.specs.declared.fault.SyntaxFault.TheVariants as faults
use Rattle.rnc_model.specs.tokens.Cut.{Lexeme}
use Rattle.rnc_model.specs.grammar.Sentence.{BreaksNesting, BreaksGrammarAt}

-- the tokens have this fault, unless memory ran out
abbrev pub IsFaultOf : List Lexeme → SyntaxFault → Type 0
IsFaultOf ts faults.Memory = Unit {0}
IsFaultOf ts faults.TooDeep = BreaksNesting ts
IsFaultOf ts (faults.Unexpected number) = BreaksGrammarAt ts number

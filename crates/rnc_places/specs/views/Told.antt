-- Which clause tokens break, and at which token.
use Rattle.std.specs.Prelude.{◌≡◌, ℕ, List, Option, Some, None}
use Rattle.rnc_grammar.specs.declared.fault.ParseFault.{ParseFault}
use Rattle.rnc_grammar.specs.declared.fault.ParseFault.TheVariants as faults
use Rattle.rng_model.specs.declared.type_set.TypeSet.{TypeSet}
use Rattle.rnc_model.specs.loading.DatatypePlaces.{IsBrokenDatatype}
use Rattle.rnc_model.specs.loading.FaultPlaces.{BreaksDeclarationsAt, IsTooDeepAt}
use Rattle.rnc_model.specs.grammar.Grammar.{IsFile}
use Rattle.rnc_model.specs.grammar.Syntax.{File}
use Rattle.rnc_model.specs.grammar.Sentence.{BreaksGrammarAt}
use Rattle.rnc_model.specs.tokens.Cut.{Lexeme}

-- the clause of a fault, if it has one
abbrev pub clause_of : ParseFault → Option ℕ
clause_of faults.Memory = None
clause_of (faults.At c number) = Some c
clause_of (faults.Clause c) = Some c

-- tokens break this clause at the token with this number
pub data BreaksAtToken (ts : List Lexeme) (k number : ℕ) : Type 0 where
  unexpected : BreaksGrammarAt ts number → k ≡ 6 → BreaksAtToken ts k number
  too_deep : IsTooDeepAt ts number → k ≡ 7 → BreaksAtToken ts k number
  unruly : BreaksDeclarationsAt ts number → k ≡ 8 → BreaksAtToken ts k number

-- the clause of the fault, and the number of the token
abbrev pub IsNumberOf : List Lexeme → ParseFault → ℕ × ℕ → Type 0
IsNumberOf ts fault x = (clause_of fault ≡ Some x.0) × BreaksAtToken ts x.0 x.1

-- the number of the first name of a datatype that breaks the clause on datatypes, if there is one
abbrev pub IsBrokenNumber : TypeSet → List Lexeme → Option ℕ → Type 0
IsBrokenNumber types ts None = (f : File) (sentence : IsFile ts f) (number : ℕ) → ¬ (IsBrokenDatatype types sentence number)
IsBrokenNumber types ts (Some number) = (f : File) (sentence : IsFile ts f) → IsBrokenDatatype types sentence number

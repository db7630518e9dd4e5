-- The place of the first datatype in a file that breaks the clause on datatypes (RELAX NG Specification, section 4.16).
use Rattle.std.specs.Prelude.{ℕ, List, [], length}
use Rattle.rng_model.specs.declared.type_set.TypeSet.{TypeSet}
use Rattle.rng_model.specs.simple.Tree.{Datatype}
use Rattle.rng_model.specs.xsd.TypeSets.{IsKnownIn, IsValueIn}
use Rattle.rnc_model.specs.declared.file_place.FilePlace.{FilePlace}
use Rattle.rnc_model.specs.declarations.AppliedDeclarations.{type_by}
use Rattle.rnc_model.specs.declarations.FaultyTokens.{IsFirstAt}
use Rattle.rnc_model.specs.declarations.FileTree.{FileTree}
use Rattle.rnc_model.specs.declarations.TokenUses.{Use, data_of, value_of, in_body}
use Rattle.rnc_model.specs.grammar.Grammar as grammar
use Rattle.rnc_model.specs.grammar.Grammar.{IsFile}
use Rattle.rnc_model.specs.grammar.Syntax.{written, Declaration, DatatypeName, File}
use Rattle.rnc_model.specs.loading.FaultPlaces.{IsPlaceOfToken}
use Rattle.rnc_model.specs.loading.SchemaFile.{AreTokensOf, IsFileTree}
use Rattle.rnc_model.specs.tokens.Cut.{Lexeme, Token, lexemes}

-- the datatype of this name and these parameters, with the library that the declarations give it
abbrev pub datatype_by : List Declaration → DatatypeName written → List (List ℕ × List ℕ) → Datatype
datatype_by ds d ps = record { library = (type_by ds d).library; name = (type_by ds d).name; parameters = ps }

-- the datatype is not in the set with these parameters, or may not have this value
pub data IsBrokenUse (types : TypeSet) (ds : List Declaration) : Use → Type 0 where
  of_data : {d : DatatypeName written} {ps : List (List ℕ × List ℕ)} → ¬ (IsKnownIn types (datatype_by ds d ps)) → IsBrokenUse types ds (data_of d ps)
  of_value : {d : DatatypeName written} {v : List ℕ} → ¬ (IsValueIn types (datatype_by ds d []) v) → IsBrokenUse types ds (value_of d v)

-- the token with this number is the first name of such a datatype
abbrev pub IsBrokenDatatype : TypeSet → {ts : List Lexeme} {f : File} → IsFile ts f → ℕ → Type 0
IsBrokenDatatype types (grammar.file {f = f} {a = a} ds body e) number = IsFirstAt (IsBrokenUse types f.declarations) (length a) (in_body body) number

-- the tokens break no clause before that on datatypes, and they break that one first at the token with this number
pub record BreaksDatatypesAt (types : TypeSet) (ts : List Lexeme) (number : ℕ) : Type 0 where
  pub tree : FileTree
  pub is : IsFileTree ts tree
  pub at : (f : File) (sentence : IsFile ts f) → IsBrokenDatatype types sentence number

-- the bytes break no clause from 3 to 8, and have a datatype that breaks clause 12
abbrev pub HasBrokenDatatype : TypeSet → List ℕ → Type 0
HasBrokenDatatype types bytes = (ts : List Token) × (number : ℕ) × AreTokensOf bytes ts × BreaksDatatypesAt types (lexemes ts) number

-- the same, and this is the place of the first one
pub record BreaksDatatypeAt (types : TypeSet) (bytes : List ℕ) (p : FilePlace) : Type 0 where
  pub tokens : List Token
  pub number : ℕ
  pub are : AreTokensOf bytes tokens
  pub broken : BreaksDatatypesAt types (lexemes tokens) number
  pub place : IsPlaceOfToken bytes tokens number p

-- Which datatypes break the clause on datatypes, and the first of them.
use Rattle.std.specs.Prelude.{ℕ, suc, ◌+◌, ◌-◌, length, Bool, false, ◌&&◌, not, is_none, List, [], ◌∷◌, Option, Some, None, option_map, if◌then◌else◌, codes}
use Rattle.rng_model.specs.declared.type_set.TypeSet.{TypeSet}
use Rattle.rng_model.specs.simple.Tree.{Datatype}
use Rattle.rng_model.specs.xsd.TypeSets.{meaning_in, takes_values_in, tests_in}
use Rattle.rnc_model.specs.declarations.Declarations.{◌>>=◌, Scope, declare, library_in, nothing_declared, option_or}
use Rattle.rnc_model.specs.declarations.TokenUses.{Use, namespace_of, data_of, value_of}
use Rattle.rnc_model.specs.grammar.Syntax as syntax
use Rattle.rnc_model.specs.grammar.Syntax.{written, Declaration}
use Rattle.rnc_model.specs.tokens.Cut.{Lexeme}
use Rattle.rnc_places.specs.declared.prefixes.Part.TheVariants.{Body}
use Rattle.rnc_places.specs.plain.DatatypeNumbers.{name_number, names, uses_of_body}
use Rattle.rnc_places.specs.plain.FaultNumbers.{behind_declaration}

-- the library of a datatype, or the empty one if its prefix is not declared
abbrev pub library_of : Scope → syntax.DatatypeName written → List ℕ
library_of s syntax.string_type = []
library_of s syntax.token_type = []
library_of s (syntax.prefixed_type p l) = option_or [] (library_in s p)

abbrev pub local_of : syntax.DatatypeName written → List ℕ
local_of syntax.string_type = codes "string"
local_of syntax.token_type = codes "token"
local_of (syntax.prefixed_type p l) = l

abbrev pub datatype_in : Scope → syntax.DatatypeName written → List (List ℕ × List ℕ) → Datatype
datatype_in s d ps = record { library = library_of s d; name = local_of d; parameters = ps }

abbrev pub is_unknown : TypeSet → Datatype → Bool
is_unknown types d = is_none (meaning_in types d)

abbrev pub is_refused : TypeSet → Datatype → List ℕ → Bool
is_refused types d v = not (takes_values_in types d && (tests_in types).allows d v)

-- the datatype breaks the clause
abbrev pub is_broken : TypeSet → Scope → Use → Bool
is_broken types s (namespace_of p) = false
is_broken types s (data_of d ps) = is_unknown types (datatype_in s d ps)
is_broken types s (value_of d v) = is_refused types (datatype_in s d []) v

-- how many come before the first one that passes
abbrev pub first_of_all : (Use → Bool) → List Use → Option ℕ
first_of_all test [] = None
first_of_all test (u ∷ us) = if test u then Some 0 else option_map suc (first_of_all test us)

-- what these declarations declare, and the tokens after them
abbrev pub applied : Scope → List Declaration → List Lexeme → Option (Scope × List Lexeme)
applied s [] ts = Some (s, ts)
applied s (d ∷ ds) ts = declare s d >>= λ t. applied t ds (behind_declaration ts)

-- the number, from 1, of the name of the first datatype that breaks the clause, in a file with these tokens
abbrev pub broken_number : TypeSet → syntax.File → List Lexeme → Option ℕ
broken_number types f ts = applied nothing_declared f.declarations ts >>= λ x. first_of_all (is_broken types x.0) (uses_of_body f.body) >>= λ k.
    Some ((length ts - length x.1) + name_number k (names 0 Body x.1))

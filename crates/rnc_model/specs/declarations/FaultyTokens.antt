-- The token at which a file breaks a rule about declarations: the first declaration that breaks one, or otherwise the
-- first prefix that is not declared (RELAX NG Compact Syntax, "Declarations" and "Syntax").
use Rattle.std.specs.Prelude.{◌≡◌, ◌≢◌, ℕ, suc, ◌+◌, ◌<◌, List, [], ◌∷◌, length, map, take, slice_get, Option, Some, None, codes}
use Rattle.rnc_model.specs.declarations.DeclarationRules.{Declarable, namespace_prefix, datatype_prefix, IsUndeclared, BreaksDeclarationRule}
use Rattle.rnc_model.specs.declarations.TokenUses.{Use, namespace_of, data_of, value_of}
use Rattle.rnc_model.specs.grammar.Grammar as grammar
use Rattle.rnc_model.specs.grammar.Grammar.{AreDeclarations}
use Rattle.rnc_model.specs.grammar.Syntax as syntax
use Rattle.rnc_model.specs.grammar.Syntax.{written}
use Rattle.rnc_model.specs.tokens.Cut.{Lexeme}

-- ---- the prefix of each token of a body, if it has one that the file uses

-- the prefix of a datatype
abbrev pub prefix_of_type : syntax.DatatypeName written → Option Declarable
prefix_of_type syntax.string_type = None
prefix_of_type syntax.token_type = None
prefix_of_type (syntax.prefixed_type p l) = Some (datatype_prefix p)

abbrev pub prefix_used_in : Option Use → Option Declarable
prefix_used_in None = None
prefix_used_in (Some (namespace_of p)) = Some (namespace_prefix p)
prefix_used_in (Some (data_of d ps)) = prefix_of_type d
prefix_used_in (Some (value_of d v)) = prefix_of_type d

abbrev pub prefixes_in : List (Option Use) → List (Option Declarable)
prefixes_in uses = map prefix_used_in uses

-- ---- the number of the first token of each declaration, if the first of them begins at the token with this number
abbrev pub declaration_numbers : {ts : List Lexeme} {ds : List syntax.Declaration} → ℕ → AreDeclarations ts ds → List ℕ
declaration_numbers number (grammar.no_declarations e) = []
declaration_numbers number (grammar.and_declaration {a = a} d ds e) = number ∷ declaration_numbers (number + length a) ds

-- ---- the first fault

-- the declarations break a rule by themselves
abbrev pub BreakDeclarationRule : List syntax.Declaration → Type 0
BreakDeclarationRule ds = BreaksDeclarationRule (record { declarations = ds; body = syntax.grammar_body syntax.no_components })

-- a declaration begins at the token with this number; it breaks a rule by itself or with those before it, and they break
-- none
pub record IsBrokenDeclaration (numbers : List ℕ) (ds : List syntax.Declaration) (number : ℕ) : Type 0 where
  pub index : ℕ
  pub number_is : slice_get numbers index ≡ Some number
  pub broken : BreakDeclarationRule (take (suc index) ds)
  pub kept : ¬ (BreakDeclarationRule (take index ds))

-- the prefix is not declared, and it is none that is always declared
pub data IsUndeclaredPrefix (ds : List syntax.Declaration) : Declarable → Type 0 where
  namespace : {p : List ℕ} → p ≢ codes "xml" → IsUndeclared (namespace_prefix p) ds → IsUndeclaredPrefix ds (namespace_prefix p)
  datatypes : {p : List ℕ} → p ≢ codes "xsd" → IsUndeclared (datatype_prefix p) ds → IsUndeclaredPrefix ds (datatype_prefix p)

-- The token with this number is the first one with a mark for which this holds. The tokens before the marked ones are so
-- many.
pub record IsFirstAt {A : Type 0} (Holds : A → Type 0) (before : ℕ) (marks : List (Option A)) (number : ℕ) : Type 0 where
  pub index : ℕ
  pub number_is : number ≡ before + suc index
  pub mark : A
  pub mark_is : slice_get marks index ≡ Some (Some mark)
  pub holds : Holds mark
  pub first : (k : ℕ) (other : A) → k < index → slice_get marks k ≡ Some (Some other) → ¬ (Holds other)

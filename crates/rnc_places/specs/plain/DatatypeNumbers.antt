-- The datatypes in a tree that may break the clause on datatypes, and the numbers of their names, found token by token.
-- `string` and `token` allow every text, so they break the clause with parameters alone.
use Rattle.std.specs.Prelude.{ℕ, zero, suc, ◌-◌, Bool, true, false, ◌||◌, List, [], ◌∷◌, ◌++◌, if◌then◌else◌}
use Rattle.rnc_model.specs.declared.token.Keyword.TheVariants as keywords
use Rattle.rnc_model.specs.declared.token.Sign.TheVariants.{CloseBrace, OpenBrace}
use Rattle.rnc_model.specs.declarations.TokenUses.{Use, namespace_of, data_of, value_of}
use Rattle.rnc_model.specs.grammar.Syntax as syntax
use Rattle.rnc_model.specs.grammar.Syntax.{written}
use Rattle.rnc_model.specs.tokens.Cut.{Lexeme, cname, keyword, sign}
use Rattle.rnc_places.specs.declared.prefixes.Part.{Part}
use Rattle.rnc_places.specs.declared.prefixes.Part.TheVariants.{Body}
use Rattle.rnc_places.specs.plain.FaultNumbers.{depth_after, part_at}

-- ---- the datatypes in a tree

abbrev pub is_prefixed : syntax.DatatypeName written → Bool
is_prefixed syntax.string_type = false
is_prefixed syntax.token_type = false
is_prefixed (syntax.prefixed_type p l) = true

abbrev pub has_some : List (List ℕ × List ℕ) → Bool
has_some [] = false
has_some (p ∷ ps) = true

-- a use of a datatype that may break the clause
abbrev pub may_break : Use → Bool
may_break (namespace_of p) = false
may_break (data_of d ps) = is_prefixed d || has_some ps
may_break (value_of d v) = is_prefixed d

abbrev pub kept_use : Use → List Use
kept_use u = if may_break u then u ∷ [] else []

abbrev mutual
  -- those in a pattern, in order
  pub uses_of_pattern : syntax.PatternAt written → List Use
  uses_of_pattern (syntax.element c p) = uses_of_pattern p
  uses_of_pattern (syntax.attribute c p) = uses_of_pattern p
  uses_of_pattern (syntax.list p) = uses_of_pattern p
  uses_of_pattern (syntax.mixed p) = uses_of_pattern p
  uses_of_pattern (syntax.optional p) = uses_of_pattern p
  uses_of_pattern (syntax.zero_or_more p) = uses_of_pattern p
  uses_of_pattern (syntax.one_or_more p) = uses_of_pattern p
  uses_of_pattern (syntax.ref n) = []
  uses_of_pattern (syntax.parent_ref n) = []
  uses_of_pattern syntax.empty = []
  uses_of_pattern syntax.text = []
  uses_of_pattern syntax.not_allowed = []
  uses_of_pattern (syntax.value d v) = kept_use (value_of d v)
  uses_of_pattern (syntax.data_of d ps) = kept_use (data_of d ps)
  uses_of_pattern (syntax.data_except d ps p) = kept_use (data_of d ps) ++ uses_of_pattern p
  uses_of_pattern (syntax.external m) = []
  uses_of_pattern (syntax.grammar cs) = uses_of_components cs
  uses_of_pattern (syntax.joined k ps) = uses_of_patterns ps

  pub uses_of_patterns : syntax.PatternsAt written → List Use
  uses_of_patterns syntax.no_patterns = []
  uses_of_patterns (syntax.pattern_and p ps) = uses_of_pattern p ++ uses_of_patterns ps

  pub uses_of_component : syntax.ComponentAt written → List Use
  uses_of_component (syntax.start m p) = uses_of_pattern p
  uses_of_component (syntax.define n m p) = uses_of_pattern p
  uses_of_component (syntax.div cs) = uses_of_components cs
  uses_of_component (syntax.include m cs) = uses_of_components cs

  pub uses_of_components : syntax.ComponentsAt written → List Use
  uses_of_components syntax.no_components = []
  uses_of_components (syntax.component_and c cs) = uses_of_component c ++ uses_of_components cs

abbrev pub uses_of_body : syntax.Body → List Use
uses_of_body (syntax.pattern_body p) = uses_of_pattern p
uses_of_body (syntax.grammar_body cs) = uses_of_components cs

-- ---- their names among the tokens

-- the tokens begin with a token that does not close a brace
abbrev pub begins_parameter : List Lexeme → Bool
begins_parameter [] = false
begins_parameter (sign CloseBrace ∷ ts) = false
begins_parameter (_ ∷ ts) = true

-- the tokens begin with a parameter in braces
abbrev pub opens_parameters : List Lexeme → Bool
opens_parameters [] = false
opens_parameters (sign OpenBrace ∷ ts) = begins_parameter ts
opens_parameters (_ ∷ ts) = false

-- a token of a body is the name of a datatype that may break the clause, with these tokens after it
abbrev pub names_datatype : Lexeme → List Lexeme → Bool
names_datatype (cname p l) ts = true
names_datatype (keyword keywords.String s) ts = opens_parameters ts
names_datatype (keyword keywords.Token s) ts = opens_parameters ts
names_datatype _ ts = false

-- the same for a token anywhere, where so many annotations are open
abbrev pub is_name_at : ℕ → Part → Lexeme → List Lexeme → Bool
is_name_at zero Body x ts = names_datatype x ts
is_name_at zero _ x ts = false
is_name_at (suc d) a x ts = false

abbrev pub names : ℕ → Part → List Lexeme → List Bool
names d a [] = []
names d a (x ∷ ts) = is_name_at d a x ts ∷ names (depth_after d x) (part_at d a x) ts

-- this is a name, and the last that is asked for
abbrev pub is_last : ℕ → Bool → Bool
is_last k false = false
is_last zero true = true
is_last (suc k) true = false

-- how many names come before the one that is asked for, after this token
abbrev pub left_after : ℕ → Bool → ℕ
left_after k true = k - 1
left_after k false = k

-- the number, from 1, of the name that so many others come before, or one more than there are tokens
abbrev pub name_number : ℕ → List Bool → ℕ
name_number k [] = 1
name_number k (b ∷ bs) = if is_last k b then 1 else suc (name_number (left_after k b) bs)

-- The parts of patterns: words, annotations, literals, parameters and name classes, with a constructor for each production
-- (RELAX NG Compact Syntax, "Syntax" and "Annotations"). Parentheses and annotations leave no node. A closing bracket is of
-- the same kind as the opening one.
use Rattle.std.specs.Prelude.{◌≡◌, ℕ, Bool, true, false, List, [], ◌∷◌, ◌++◌, Option, Some, None}
use Rattle.rng_model.specs.simple.Tree.{Connector, choice, group, interleave}
use Rattle.rnc_model.specs.declared.token.Keyword.TheVariants as keywords
use Rattle.rnc_model.specs.declared.token.Sign.{Sign}
use Rattle.rnc_model.specs.declared.token.Sign.TheVariants.{Equal, BarEqual, AndEqual, Comma, Bar, And, Star, Minus, OpenBrace, CloseBrace}
use Rattle.rnc_model.specs.declared.token.Sign.TheVariants.{OpenParenthesis, CloseParenthesis, OpenBracket, CloseBracket, Tilde}
use Rattle.rng_model.specs.declared.method.Method.{Method}
use Rattle.rng_model.specs.declared.method.Method.TheVariants as methods
use Rattle.rnc_model.specs.tokens.Cut.{Lexeme, Spelling, keyword, identifier, cname, ns_name, segment, sign}
use Rattle.rnc_model.specs.grammar.Syntax as syntax
use Rattle.rnc_model.specs.grammar.Syntax.{written, NameClassAt, DatatypeName}

-- ---- the meaning of one token

-- word = identifier | keyword
abbrev pub word_of : Lexeme → Option (List ℕ)
word_of (identifier w) = Some w
word_of (keyword k s) = Some s.text
word_of _ = None

-- typename = CName | "string" | "token"
abbrev pub type_of : Lexeme → Option (DatatypeName written)
type_of (cname p l) = Some (syntax.prefixed_type p l)
type_of (keyword keywords.String s) = Some syntax.string_type
type_of (keyword keywords.Token s) = Some syntax.token_type
type_of _ = None

-- method = "=" | "|=" | "&="
abbrev pub method_of : Lexeme → Option Method
method_of (sign Equal) = Some methods.Plain
method_of (sign BarEqual) = Some methods.Choice
method_of (sign AndEqual) = Some methods.Interleave
method_of _ = None

-- the connectors of members: "," | "&" | "|"
abbrev pub connector_of : Sign → Option Connector
connector_of Comma = Some group
connector_of And = Some interleave
connector_of Bar = Some choice
connector_of _ = None

-- "[", "]", "{", "}", "(" or ")"
abbrev pub is_bracket : Lexeme → Bool
is_bracket (sign OpenBracket) = true
is_bracket (sign CloseBracket) = true
is_bracket (sign OpenBrace) = true
is_bracket (sign CloseBrace) = true
is_bracket (sign OpenParenthesis) = true
is_bracket (sign CloseParenthesis) = true
is_bracket _ = false

-- ---- annotations

-- ( annotation | any token except a bracket )*
pub data IsAnnotationContent : List Lexeme → Type 0 where
  no_content : {ts : List Lexeme} → ts ≡ [] → IsAnnotationContent ts
  and_token : {ts : List Lexeme} {a : List Lexeme} {x : Lexeme} → is_bracket x ≡ false → IsAnnotationContent a → ts ≡ x ∷ a → IsAnnotationContent ts
  and_annotation : {ts : List Lexeme} {a b : List Lexeme} → IsAnnotationContent a → IsAnnotationContent b
      → ts ≡ sign OpenBracket ∷ (a ++ sign CloseBracket ∷ b) → IsAnnotationContent ts

-- [annotation] where annotation = "[" ( annotation | any token except a bracket )* "]"
pub data MayBeAnnotation : List Lexeme → Type 0 where
  without_annotation : {ts : List Lexeme} → ts ≡ [] → MayBeAnnotation ts
  with_annotation : {ts : List Lexeme} {a : List Lexeme} → IsAnnotationContent a → ts ≡ sign OpenBracket ∷ (a ++ sign CloseBracket ∷ [])
      → MayBeAnnotation ts

-- ---- literals, parameters, and what mentions pass on

-- literal = segment ("~" segment)*: the text of its segments, joined
pub data IsLiteral : List Lexeme → List ℕ → Type 0 where
  one_segment : {ts : List Lexeme} {w : List ℕ} → ts ≡ segment w ∷ [] → IsLiteral ts w
  more_segments : {ts : List Lexeme} {v : List ℕ} {a : List Lexeme} {w u : List ℕ} → IsLiteral a u → ts ≡ segment w ∷ sign Tilde ∷ a → v ≡ w ++ u
      → IsLiteral ts v

-- param* where param = [annotation] word "=" literal
pub data AreParameters : List Lexeme → List (List ℕ × List ℕ) → Type 0 where
  no_parameters : {ts : List Lexeme} → ts ≡ [] → AreParameters ts []
  and_parameter : {ts : List Lexeme} {ps : List (List ℕ × List ℕ)} {n a b : List Lexeme} {w v : List ℕ} (x : Lexeme) → MayBeAnnotation n → word_of x ≡ Some w
      → IsLiteral a v → AreParameters b ps → ts ≡ n ++ x ∷ sign Equal ∷ (a ++ b) → AreParameters ts ((w, v) ∷ ps)

-- [params] where params = "{" param* "}"
pub data MayBeParameters : List Lexeme → List (List ℕ × List ℕ) → Type 0 where
  without_parameters : {ts : List Lexeme} → ts ≡ [] → MayBeParameters ts []
  with_parameters : {ts : List Lexeme} {ps : List (List ℕ × List ℕ)} {a : List Lexeme} → AreParameters a ps → ts ≡ sign OpenBrace ∷ (a ++ sign CloseBrace ∷ [])
      → MayBeParameters ts ps

-- [inherit] where inherit = "inherit" "=" word
pub data MayInherit : List Lexeme → Option (List ℕ) → Type 0 where
  without_inherit : {ts : List Lexeme} → ts ≡ [] → MayInherit ts None
  with_inherit : {ts : List Lexeme} {w : List ℕ} {x : Lexeme} {s : Spelling} → word_of x ≡ Some w → ts ≡ keyword keywords.Inherit s ∷ sign Equal ∷ x ∷ []
      → MayInherit ts (Some w)

-- ---- name classes

mutual
  -- class = basic | basic ("|" basic)+ | [annotation] (nsName | "*") "-" basic
  pub data IsClass : List Lexeme → NameClassAt written → Type 0 where
    basic_class : {ts : List Lexeme} {c : NameClassAt written} → IsBasic ts c → IsClass ts c
    choice_class : {ts : List Lexeme} {d : NameClassAt written} {a b : List Lexeme} {c : NameClassAt written} {cs : List (NameClassAt written)} → IsBasic a c
        → AreMoreClasses b cs → ts ≡ a ++ b → d ≡ syntax.choice_of (c ∷ cs) → IsClass ts d
    any_except : {ts : List Lexeme} {n a : List Lexeme} {c : NameClassAt written} → MayBeAnnotation n → IsBasic a c → ts ≡ n ++ sign Star ∷ sign Minus ∷ a
        → IsClass ts (syntax.any_except c)
    ns_except : {ts : List Lexeme} {n a : List Lexeme} {p : List ℕ} {c : NameClassAt written} → MayBeAnnotation n → IsBasic a c
        → ts ≡ n ++ ns_name p ∷ sign Minus ∷ a → IsClass ts (syntax.ns_except p c)

  -- ("|" basic)+
  pub data AreMoreClasses : List Lexeme → List (NameClassAt written) → Type 0 where
    last_class : {ts : List Lexeme} {a : List Lexeme} {c : NameClassAt written} → IsBasic a c → ts ≡ sign Bar ∷ a → AreMoreClasses ts (c ∷ [])
    more_classes : {ts : List Lexeme} {cs : List (NameClassAt written)} {a b : List Lexeme} {c : NameClassAt written} → IsBasic a c → AreMoreClasses b cs
        → ts ≡ sign Bar ∷ (a ++ b) → AreMoreClasses ts (c ∷ cs)

  -- basic = [annotation] bare-basic
  pub data IsBasic : List Lexeme → NameClassAt written → Type 0 where
    annotated_basic : {ts : List Lexeme} {n a : List Lexeme} {c : NameClassAt written} → MayBeAnnotation n → IsBareBasic a c → ts ≡ n ++ a → IsBasic ts c

  -- bare-basic = word | CName | nsName | "*" | "(" class ")"
  pub data IsBareBasic : List Lexeme → NameClassAt written → Type 0 where
    word_class : {ts : List Lexeme} {x : Lexeme} {w : List ℕ} → word_of x ≡ Some w → ts ≡ x ∷ [] → IsBareBasic ts (syntax.name_is (syntax.unprefixed w))
    cname_class : {ts : List Lexeme} {p l : List ℕ} → ts ≡ cname p l ∷ [] → IsBareBasic ts (syntax.name_is (syntax.prefixed p l))
    ns_class : {ts : List Lexeme} {p : List ℕ} → ts ≡ ns_name p ∷ [] → IsBareBasic ts (syntax.ns_name p)
    any_class : {ts : List Lexeme} → ts ≡ sign Star ∷ [] → IsBareBasic ts syntax.any_name
    class_in_parens : {ts : List Lexeme} {a : List Lexeme} {c : NameClassAt written} → IsClass a c → ts ≡ sign OpenParenthesis ∷ (a ++ sign CloseParenthesis ∷ [])
        → IsBareBasic ts c

-- The grammar: which tokens are which syntax tree, with a constructor for each production (RELAX NG Compact Syntax,
-- "Syntax").
use Rattle.std.specs.Prelude.{◌≡◌, ℕ, List, [], ◌∷◌, ◌++◌, Option, Some, None}
use Rattle.rng_model.specs.simple.Tree.{Connector}
use Rattle.rnc_model.specs.declared.token.Keyword.TheVariants as keywords
use Rattle.rnc_model.specs.declared.token.Sign.{Sign}
use Rattle.rnc_model.specs.declared.token.Sign.TheVariants.{Equal, Question, Star, Plus, Minus, OpenBrace, CloseBrace}
use Rattle.rnc_model.specs.declared.token.Sign.TheVariants.{OpenParenthesis, CloseParenthesis}
use Rattle.rng_model.specs.declared.method.Method.{Method}
use Rattle.rnc_model.specs.tokens.Cut.{Lexeme, Spelling, keyword, identifier, sign}
use Rattle.rnc_model.specs.grammar.Syntax as syntax
use Rattle.rnc_model.specs.grammar.Syntax.{written, NameClassAt, DatatypeName, PatternAt, ComponentAt, Uri, Declaration, Body, File}
use Rattle.rnc_model.specs.grammar.NameClasses.{word_of, type_of, method_of, connector_of, MayBeAnnotation, IsLiteral, MayBeParameters, MayInherit, IsClass}

-- ---- patterns and components

-- where a component may be: in a grammar, or in the braces of an include
pub data Setting : Type 0 where
  content : Setting
  override : Setting

mutual
  -- pattern = particle | particle ("," particle)+ | particle ("&" particle)+ | particle ("|" particle)+
  --         | [annotation] typename [params] "-" primary
  pub data IsPattern : List Lexeme → PatternAt written → Type 0 where
    one_particle : {ts : List Lexeme} {t : PatternAt written} → IsParticle ts t → IsPattern ts t
    particles : {ts : List Lexeme} {u : PatternAt written} {a b : List Lexeme} {s : Sign} {k : Connector} {t : PatternAt written} {us : List (PatternAt written)}
        → connector_of s ≡ Some k → IsParticle a t → AreMore s b us → ts ≡ a ++ b → u ≡ syntax.members k (t ∷ us) → IsPattern ts u
    data_except : {ts : List Lexeme} {n a b : List Lexeme} {d : DatatypeName written} {ps : List (List ℕ × List ℕ)} {t : PatternAt written} (x : Lexeme)
        → MayBeAnnotation n
        → type_of x ≡ Some d → MayBeParameters a ps → IsPrimary b t → ts ≡ n ++ x ∷ (a ++ sign Minus ∷ b) → IsPattern ts (syntax.data_except d ps t)

  -- one or more particles, the connector before each
  pub data AreMore : Sign → List Lexeme → List (PatternAt written) → Type 0 where
    last_particle : {s : Sign} {ts : List Lexeme} {a : List Lexeme} {t : PatternAt written} → IsParticle a t → ts ≡ sign s ∷ a → AreMore s ts (t ∷ [])
    more_particles : {s : Sign} {ts : List Lexeme} {us : List (PatternAt written)} {a b : List Lexeme} {t : PatternAt written} → IsParticle a t → AreMore s b us
        → ts ≡ sign s ∷ (a ++ b) → AreMore s ts (t ∷ us)

  -- particle = primary | primary "?" | primary "*" | primary "+"
  pub data IsParticle : List Lexeme → PatternAt written → Type 0 where
    once : {ts : List Lexeme} {t : PatternAt written} → IsPrimary ts t → IsParticle ts t
    optional : {ts : List Lexeme} {a : List Lexeme} {t : PatternAt written} → IsPrimary a t → ts ≡ a ++ sign Question ∷ [] → IsParticle ts (syntax.optional t)
    zero_or_more : {ts : List Lexeme} {a : List Lexeme} {t : PatternAt written} → IsPrimary a t → ts ≡ a ++ sign Star ∷ [] → IsParticle ts (syntax.zero_or_more t)
    one_or_more : {ts : List Lexeme} {a : List Lexeme} {t : PatternAt written} → IsPrimary a t → ts ≡ a ++ sign Plus ∷ [] → IsParticle ts (syntax.one_or_more t)

  -- primary = [annotation] bare-primary
  pub data IsPrimary : List Lexeme → PatternAt written → Type 0 where
    annotated_primary : {ts : List Lexeme} {n a : List Lexeme} {t : PatternAt written} → MayBeAnnotation n → IsBarePrimary a t → ts ≡ n ++ a → IsPrimary ts t

  -- bare-primary = "element" class "{" pattern "}" | "attribute" class "{" pattern "}" | "list" "{" pattern "}"
  --         | "mixed" "{" pattern "}" | identifier | "parent" identifier | "empty" | "text" | "notAllowed"
  --         | [typename] literal | typename [params] | "external" literal [inherit] | "grammar" "{" content* "}"
  --         | "(" pattern ")"
  pub data IsBarePrimary : List Lexeme → PatternAt written → Type 0 where
    element : {ts : List Lexeme} {a b : List Lexeme} {c : NameClassAt written} {t : PatternAt written} {s : Spelling} → IsClass a c → IsBraced b t
        → ts ≡ keyword keywords.Element s ∷ (a ++ b) → IsBarePrimary ts (syntax.element c t)
    attribute : {ts : List Lexeme} {a b : List Lexeme} {c : NameClassAt written} {t : PatternAt written} {s : Spelling} → IsClass a c → IsBraced b t
        → ts ≡ keyword keywords.Attribute s ∷ (a ++ b) → IsBarePrimary ts (syntax.attribute c t)
    list : {ts : List Lexeme} {a : List Lexeme} {t : PatternAt written} {s : Spelling} → IsBraced a t → ts ≡ keyword keywords.List s ∷ a
        → IsBarePrimary ts (syntax.list t)
    mixed : {ts : List Lexeme} {a : List Lexeme} {t : PatternAt written} {s : Spelling} → IsBraced a t → ts ≡ keyword keywords.Mixed s ∷ a
        → IsBarePrimary ts (syntax.mixed t)
    ref : {ts : List Lexeme} {n : List ℕ} → ts ≡ identifier n ∷ [] → IsBarePrimary ts (syntax.ref n)
    parent_ref : {ts : List Lexeme} {n : List ℕ} {s : Spelling} → ts ≡ keyword keywords.Parent s ∷ identifier n ∷ [] → IsBarePrimary ts (syntax.parent_ref n)
    empty : {ts : List Lexeme} {s : Spelling} → ts ≡ keyword keywords.Empty s ∷ [] → IsBarePrimary ts syntax.empty
    text : {ts : List Lexeme} {s : Spelling} → ts ≡ keyword keywords.Text s ∷ [] → IsBarePrimary ts syntax.text
    not_allowed : {ts : List Lexeme} {s : Spelling} → ts ≡ keyword keywords.NotAllowed s ∷ [] → IsBarePrimary ts syntax.not_allowed
    untyped_value : {ts : List Lexeme} {v : List ℕ} → IsLiteral ts v → IsBarePrimary ts (syntax.value syntax.token_type v)
    value : {ts : List Lexeme} {a : List Lexeme} {x : Lexeme} {d : DatatypeName written} {v : List ℕ} → type_of x ≡ Some d → IsLiteral a v → ts ≡ x ∷ a
        → IsBarePrimary ts (syntax.value d v)
    data_of : {ts : List Lexeme} {a : List Lexeme} {x : Lexeme} {d : DatatypeName written} {ps : List (List ℕ × List ℕ)} → type_of x ≡ Some d
        → MayBeParameters a ps → ts ≡ x ∷ a → IsBarePrimary ts (syntax.data_of d ps)
    external : {ts : List Lexeme} {t : PatternAt written} {a b : List Lexeme} {v : List ℕ} {p : Option (List ℕ)} {s : Spelling} → IsLiteral a v → MayInherit b p
        → ts ≡ keyword keywords.External s ∷ (a ++ b) → t ≡ syntax.external (record { href = v; inherit = p; token = s.number }) → IsBarePrimary ts t
    grammar : {ts : List Lexeme} {t : PatternAt written} {a : List Lexeme} {cs : List (ComponentAt written)} {s : Spelling} → AreComponents content a cs
        → ts ≡ keyword keywords.Grammar s ∷ sign OpenBrace ∷ (a ++ sign CloseBrace ∷ []) → t ≡ syntax.grammar (syntax.components_of cs) → IsBarePrimary ts t
    in_parens : {ts : List Lexeme} {a : List Lexeme} {t : PatternAt written} → IsPattern a t → ts ≡ sign OpenParenthesis ∷ (a ++ sign CloseParenthesis ∷ [])
        → IsBarePrimary ts t

  -- "{" pattern "}"
  pub data IsBraced : List Lexeme → PatternAt written → Type 0 where
    in_braces : {ts : List Lexeme} {a : List Lexeme} {t : PatternAt written} → IsPattern a t → ts ≡ sign OpenBrace ∷ (a ++ sign CloseBrace ∷ []) → IsBraced ts t

  -- content* or over*
  pub data AreComponents : Setting → List Lexeme → List (ComponentAt written) → Type 0 where
    no_components : {w : Setting} {ts : List Lexeme} → ts ≡ [] → AreComponents w ts []
    and_component : {w : Setting} {ts : List Lexeme} {cs : List (ComponentAt written)} {a b : List Lexeme} {c : ComponentAt written} → IsComponent w a c
        → AreComponents w b cs → ts ≡ a ++ b → AreComponents w ts (c ∷ cs)

  -- content, over = [annotation] bare-content, [annotation] bare-over
  pub data IsComponent : Setting → List Lexeme → ComponentAt written → Type 0 where
    annotated_component : {w : Setting} {ts : List Lexeme} {n a : List Lexeme} {c : ComponentAt written} → MayBeAnnotation n → IsBareComponent w a c → ts ≡ n ++ a
        → IsComponent w ts c

  -- bare-content = start | define | "div" "{" content* "}" | "include" literal [inherit] [ "{" over* "}" ]
  -- bare-over = start | define | "div" "{" over* "}"
  -- start = "start" method pattern, define = identifier method pattern
  pub data IsBareComponent : Setting → List Lexeme → ComponentAt written → Type 0 where
    start : {w : Setting} {ts : List Lexeme} {a : List Lexeme} {x : Lexeme} {m : Method} {t : PatternAt written} {s : Spelling} → method_of x ≡ Some m
        → IsPattern a t → ts ≡ keyword keywords.Start s ∷ x ∷ a → IsBareComponent w ts (syntax.start m t)
    define : {w : Setting} {ts : List Lexeme} {a : List Lexeme} {x : Lexeme} {n : List ℕ} {m : Method} {t : PatternAt written} → method_of x ≡ Some m
        → IsPattern a t → ts ≡ identifier n ∷ x ∷ a → IsBareComponent w ts (syntax.define n m t)
    div : {w : Setting} {ts : List Lexeme} {c : ComponentAt written} {a : List Lexeme} {cs : List (ComponentAt written)} {s : Spelling} → AreComponents w a cs
        → ts ≡ keyword keywords.Div s ∷ sign OpenBrace ∷ (a ++ sign CloseBrace ∷ []) → c ≡ syntax.div (syntax.components_of cs) → IsBareComponent w ts c
    include : {w : Setting} {ts : List Lexeme} {c : ComponentAt written} {a b o : List Lexeme} {v : List ℕ} {p : Option (List ℕ)} {cs : List (ComponentAt written)}
        {s : Spelling} → w ≡ content → IsLiteral a v → MayInherit b p → MayOverride o cs → ts ≡ keyword keywords.Include s ∷ (a ++ (b ++ o))
        → c ≡ syntax.include (record { href = v; inherit = p; token = s.number }) (syntax.components_of cs) → IsBareComponent w ts c

  -- [ "{" over* "}" ]
  pub data MayOverride : List Lexeme → List (ComponentAt written) → Type 0 where
    without_overrides : {ts : List Lexeme} → ts ≡ [] → MayOverride ts []
    with_overrides : {ts : List Lexeme} {cs : List (ComponentAt written)} {a : List Lexeme} → AreComponents override a cs
        → ts ≡ sign OpenBrace ∷ (a ++ sign CloseBrace ∷ []) → MayOverride ts cs

-- ---- files

-- uri = literal | "inherit"
pub data IsUri : List Lexeme → Uri → Type 0 where
  inherit : {ts : List Lexeme} {s : Spelling} → ts ≡ keyword keywords.Inherit s ∷ [] → IsUri ts syntax.inherit
  literal : {ts : List Lexeme} {v : List ℕ} → IsLiteral ts v → IsUri ts (syntax.literal v)

-- decl = "namespace" word "=" uri | "default" "namespace" [word] "=" uri | "datatypes" word "=" literal
pub data IsDeclaration : List Lexeme → Declaration → Type 0 where
  namespace : {ts : List Lexeme} {a : List Lexeme} {x : Lexeme} {p : List ℕ} {u : Uri} {s : Spelling} → word_of x ≡ Some p → IsUri a u
      → ts ≡ keyword keywords.Namespace s ∷ x ∷ sign Equal ∷ a → IsDeclaration ts (syntax.namespace p u)
  default_alone : {ts : List Lexeme} {a : List Lexeme} {u : Uri} {r s : Spelling} → IsUri a u → ts ≡ keyword keywords.Default r ∷ keyword keywords.Namespace
      s ∷ sign Equal ∷ a → IsDeclaration ts (syntax.default_namespace None u)
  default_with_prefix : {ts : List Lexeme} {a : List Lexeme} {x : Lexeme} {p : List ℕ} {u : Uri} {r s : Spelling} → word_of x ≡ Some p → IsUri a u
      → ts ≡ keyword keywords.Default r ∷ keyword keywords.Namespace s ∷ x ∷ sign Equal ∷ a → IsDeclaration ts (syntax.default_namespace (Some p) u)
  datatypes : {ts : List Lexeme} {a : List Lexeme} {x : Lexeme} {p v : List ℕ} {s : Spelling} → word_of x ≡ Some p → IsLiteral a v
      → ts ≡ keyword keywords.Datatypes s ∷ x ∷ sign Equal ∷ a → IsDeclaration ts (syntax.datatypes p v)

pub data AreDeclarations : List Lexeme → List Declaration → Type 0 where
  no_declarations : {ts : List Lexeme} → ts ≡ [] → AreDeclarations ts []
  and_declaration : {ts : List Lexeme} {ds : List Declaration} {a b : List Lexeme} {d : Declaration} → IsDeclaration a d → AreDeclarations b ds → ts ≡ a ++ b
      → AreDeclarations ts (d ∷ ds)

-- pattern | content*
pub data IsBody : List Lexeme → Body → Type 0 where
  pattern_body : {ts : List Lexeme} {t : PatternAt written} → IsPattern ts t → IsBody ts (syntax.pattern_body t)
  grammar_body : {ts : List Lexeme} {b : Body} {cs : List (ComponentAt written)} → AreComponents content ts cs → b ≡ syntax.grammar_body (syntax.components_of cs)
      → IsBody ts b

-- file = decl* ( pattern | content* )
pub data IsFile : List Lexeme → File → Type 0 where
  file : {ts : List Lexeme} {f : File} {a b : List Lexeme} → AreDeclarations a f.declarations → IsBody b f.body → ts ≡ a ++ b → IsFile ts f

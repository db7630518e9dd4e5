-- What each token of a body uses: the namespace of a prefix, or a datatype, at the token of its name (RELAX NG Compact
-- Syntax, "Syntax").
use Rattle.std.specs.Prelude.{ℕ, List, [], ◌∷◌, ◌++◌, map, Option, Some, None}
use Rattle.rnc_model.specs.declared.token.Sign.{Sign}
use Rattle.rnc_model.specs.grammar.Grammar as grammar
use Rattle.rnc_model.specs.grammar.NameClasses as name_classes
use Rattle.rnc_model.specs.grammar.NameClasses.{MayInherit, IsClass, AreMoreClasses, IsBasic, IsBareBasic}
use Rattle.rnc_model.specs.grammar.Grammar.{IsPattern, AreMore, IsParticle, IsPrimary, IsBarePrimary}
use Rattle.rnc_model.specs.grammar.Grammar.{IsBraced, Setting, AreComponents, IsComponent, IsBareComponent, MayOverride, IsBody}
use Rattle.rnc_model.specs.grammar.Syntax as syntax
use Rattle.rnc_model.specs.grammar.Syntax.{written}
use Rattle.rnc_model.specs.tokens.Cut.{Lexeme}

-- the namespace of a prefix, a datatype with these parameters, or a datatype for this value
pub data Use : Type 0 where
  namespace_of : List ℕ → Use
  data_of : syntax.DatatypeName written → List (List ℕ × List ℕ) → Use
  value_of : syntax.DatatypeName written → List ℕ → Use

-- tokens that use nothing
abbrev pub no_uses : List Lexeme → List (Option Use)
no_uses ts = map (λ x. None) ts

abbrev pub in_inherit : {ts : List Lexeme} {p : Option (List ℕ)} → MayInherit ts p → List (Option Use)
in_inherit (name_classes.without_inherit e) = []
in_inherit (name_classes.with_inherit {w = w} is e) = None ∷ None ∷ Some (namespace_of w) ∷ []

abbrev mutual
  pub in_class : {ts : List Lexeme} {c : syntax.NameClassAt written} → IsClass ts c → List (Option Use)
  in_class (name_classes.basic_class b) = in_basic b
  in_class (name_classes.choice_class b more e f) = in_basic b ++ in_more_classes more
  in_class (name_classes.any_except {n = n} may b e) = no_uses n ++ None ∷ None ∷ in_basic b
  in_class (name_classes.ns_except {n = n} {p = p} may b e) = no_uses n ++ Some (namespace_of p) ∷ None ∷ in_basic b

  pub in_more_classes : {ts : List Lexeme} {cs : List (syntax.NameClassAt written)} → AreMoreClasses ts cs → List (Option Use)
  in_more_classes (name_classes.last_class b e) = None ∷ in_basic b
  in_more_classes (name_classes.more_classes b more e) = None ∷ (in_basic b ++ in_more_classes more)

  pub in_basic : {ts : List Lexeme} {c : syntax.NameClassAt written} → IsBasic ts c → List (Option Use)
  in_basic (name_classes.annotated_basic {n = n} may b e) = no_uses n ++ in_bare_basic b

  pub in_bare_basic : {ts : List Lexeme} {c : syntax.NameClassAt written} → IsBareBasic ts c → List (Option Use)
  in_bare_basic (name_classes.word_class is e) = None ∷ []
  in_bare_basic (name_classes.cname_class {p = p} e) = Some (namespace_of p) ∷ []
  in_bare_basic (name_classes.ns_class {p = p} e) = Some (namespace_of p) ∷ []
  in_bare_basic (name_classes.any_class e) = None ∷ []
  in_bare_basic (name_classes.class_in_parens c e) = None ∷ (in_class c ++ None ∷ [])

abbrev mutual
  pub in_pattern : {ts : List Lexeme} {t : syntax.PatternAt written} → IsPattern ts t → List (Option Use)
  in_pattern (grammar.one_particle p) = in_particle p
  in_pattern (grammar.particles is p more e f) = in_particle p ++ in_more more
  in_pattern (grammar.data_except {n = n} {a = a} {d = d} {ps = ps} x may is parameters p e) =
      no_uses n ++ Some (data_of d ps) ∷ (no_uses a ++ None ∷ in_primary p)

  pub in_more : {s : Sign} {ts : List Lexeme} {us : List (syntax.PatternAt written)} → AreMore s ts us → List (Option Use)
  in_more (grammar.last_particle p e) = None ∷ in_particle p
  in_more (grammar.more_particles p more e) = None ∷ (in_particle p ++ in_more more)

  pub in_particle : {ts : List Lexeme} {t : syntax.PatternAt written} → IsParticle ts t → List (Option Use)
  in_particle (grammar.once p) = in_primary p
  in_particle (grammar.optional p e) = in_primary p ++ None ∷ []
  in_particle (grammar.zero_or_more p e) = in_primary p ++ None ∷ []
  in_particle (grammar.one_or_more p e) = in_primary p ++ None ∷ []

  pub in_primary : {ts : List Lexeme} {t : syntax.PatternAt written} → IsPrimary ts t → List (Option Use)
  in_primary (grammar.annotated_primary {n = n} may p e) = no_uses n ++ in_bare_primary p

  pub in_bare_primary : {ts : List Lexeme} {t : syntax.PatternAt written} → IsBarePrimary ts t → List (Option Use)
  in_bare_primary (grammar.element c p e) = None ∷ (in_class c ++ in_braced p)
  in_bare_primary (grammar.attribute c p e) = None ∷ (in_class c ++ in_braced p)
  in_bare_primary (grammar.list p e) = None ∷ in_braced p
  in_bare_primary (grammar.mixed p e) = None ∷ in_braced p
  in_bare_primary (grammar.ref e) = None ∷ []
  in_bare_primary (grammar.parent_ref e) = None ∷ None ∷ []
  in_bare_primary (grammar.empty e) = None ∷ []
  in_bare_primary (grammar.text e) = None ∷ []
  in_bare_primary (grammar.not_allowed e) = None ∷ []
  in_bare_primary (grammar.untyped_value {ts} v) = no_uses ts
  in_bare_primary (grammar.value {a = a} {d = d} {v = v} is literal e) = Some (value_of d v) ∷ no_uses a
  in_bare_primary (grammar.data_of {a = a} {d = d} {ps = ps} is parameters e) = Some (data_of d ps) ∷ no_uses a
  in_bare_primary (grammar.external {a = a} v may e f) = None ∷ (no_uses a ++ in_inherit may)
  in_bare_primary (grammar.grammar cs e f) = None ∷ None ∷ (in_components cs ++ None ∷ [])
  in_bare_primary (grammar.in_parens p e) = None ∷ (in_pattern p ++ None ∷ [])

  pub in_braced : {ts : List Lexeme} {t : syntax.PatternAt written} → IsBraced ts t → List (Option Use)
  in_braced (grammar.in_braces p e) = None ∷ (in_pattern p ++ None ∷ [])

  pub in_components : {w : Setting} {ts : List Lexeme} {cs : List (syntax.ComponentAt written)} → AreComponents w ts cs → List (Option Use)
  in_components (grammar.no_components e) = []
  in_components (grammar.and_component c cs e) = in_component c ++ in_components cs

  pub in_component : {w : Setting} {ts : List Lexeme} {c : syntax.ComponentAt written} → IsComponent w ts c → List (Option Use)
  in_component (grammar.annotated_component {n = n} may c e) = no_uses n ++ in_bare_component c

  pub in_bare_component : {w : Setting} {ts : List Lexeme} {c : syntax.ComponentAt written} → IsBareComponent w ts c → List (Option Use)
  in_bare_component (grammar.start is p e) = None ∷ None ∷ in_pattern p
  in_bare_component (grammar.define is p e) = None ∷ None ∷ in_pattern p
  in_bare_component (grammar.div cs e f) = None ∷ None ∷ (in_components cs ++ None ∷ [])
  in_bare_component (grammar.include {a = a} is v may over e f) = None ∷ (no_uses a ++ (in_inherit may ++ in_overrides over))

  pub in_overrides : {ts : List Lexeme} {cs : List (syntax.ComponentAt written)} → MayOverride ts cs → List (Option Use)
  in_overrides (grammar.without_overrides e) = []
  in_overrides (grammar.with_overrides cs e) = None ∷ (in_components cs ++ None ∷ [])

abbrev pub in_body : {ts : List Lexeme} {b : syntax.Body} → IsBody ts b → List (Option Use)
in_body (grammar.pattern_body p) = in_pattern p
in_body (grammar.grammar_body cs e) = in_components cs

-- Syntax trees are well spelled if their tokens are, with as much room for parentheses as these take.
use Rattle.std.proofs.Common.{◌≡◌, ◌∙◌, refl, sym, subst, ap, ℕ, suc, ◌≤◌, max, Bool, true, List, [], ◌∷◌, ◌++◌, Option, Some, arith}
use Rattle.std.specs.List.{AllByRecursion, list_all}
use Rattle.std.specs.Str.{chars}
use Rattle.std.proofs.lemmas.Bool.{and_parts}
use Rattle.std.proofs.lemmas.Str.{IsUtf8-append, chars-append}
use Rattle.rng_model.specs.names.Names.{is_xml_char}
use Rattle.rng_model.specs.simple.Tree.{Connector}
use Rattle.rnc_model.specs.declared.token.Sign.{Sign}
use Rattle.rnc_model.specs.declared.token.Sign.TheVariants.{Equal, Bar, Question, Star, Plus, Minus, OpenBracket, CloseBracket, Tilde}
use Rattle.rnc_model.specs.grammar.NameClasses as name_classes
use Rattle.rnc_model.specs.grammar.Grammar as grammar
use Rattle.rnc_model.specs.grammar.NameClasses.{IsAnnotationContent, MayBeAnnotation, IsLiteral, AreParameters, MayBeParameters, MayInherit, IsClass}
use Rattle.rnc_model.specs.grammar.NameClasses.{AreMoreClasses, IsBasic, IsBareBasic, connector_of}
use Rattle.rnc_model.specs.grammar.Grammar.{Setting, IsPattern, AreMore, IsParticle, IsPrimary, IsBarePrimary, IsBraced, AreComponents}
use Rattle.rnc_model.specs.grammar.Grammar.{IsComponent, IsBareComponent, MayOverride, IsUri, IsDeclaration, AreDeclarations, IsBody, IsFile}
use Rattle.rnc_model.specs.tokens.Cut.{Lexeme}
use Rattle.rnc_model.specs.grammar.Syntax as syntax
use Rattle.rnc_model.specs.grammar.Syntax.{written, NameAt, NameClassAt, NameClassesAt, PatternAt, PatternsAt, ComponentAt, ComponentsAt, Uri, Declaration, Body, File}
use Rattle.rnc_model.specs.grammar.Sentence.{nesting_limit}
use Rattle.rnc_print_laws.specs.plain.Printable.{IsText, IsName, IsPrintableParameter}
use Rattle.rnc_print_laws.proofs.WellSpelled.RoomForBrackets.{Keeps, both, in_braces, in_parentheses, at, nothing, so, past_keyword, past_identifier, past_name}
use Rattle.rnc_print_laws.proofs.WellSpelled.RoomForBrackets.{past_ns}
use Rattle.rnc_print_laws.proofs.WellSpelled.RoomForBrackets.{past_segment, past_word, IsWellSpelledName, past_type, past_method, past_connector, past_sign}
use Rattle.rnc_print_laws.proofs.WellSpelled.RoomForBrackets.{past_other}
use Rattle.rng_simple.proofs.Grammars.SimpleFormParts.{first, second}

-- ---- name classes

abbrev pub IsSpelledName : NameAt written → Type 0
IsSpelledName (syntax.unprefixed l) = IsName l
IsSpelledName (syntax.prefixed p l) = IsName l

abbrev mutual
  pub IsSpelledClass : NameClassAt written → Type 0
  IsSpelledClass syntax.any_name = Unit {0}
  IsSpelledClass (syntax.any_except c) = IsSpelledClass c
  IsSpelledClass (syntax.ns_name p) = Unit {0}
  IsSpelledClass (syntax.ns_except p c) = IsSpelledClass c
  IsSpelledClass (syntax.name_is n) = IsSpelledName n
  IsSpelledClass (syntax.one_of cs) = AreSpelledClasses cs

  pub AreSpelledClasses : NameClassesAt written → Type 0
  AreSpelledClasses syntax.no_classes = Unit {0}
  AreSpelledClasses (syntax.class_and c cs) = IsSpelledClass c × AreSpelledClasses cs

-- how deep parentheses nest at most if the class is a member or an except
abbrev mutual
  pub around : NameClassAt written → ℕ
  around syntax.any_name = 0
  around (syntax.any_except c) = suc (around c)
  around (syntax.ns_name p) = 0
  around (syntax.ns_except p c) = suc (around c)
  around (syntax.name_is n) = 0
  around (syntax.one_of cs) = suc (around_all cs)

  pub around_all : NameClassesAt written → ℕ
  around_all syntax.no_classes = 0
  around_all (syntax.class_and c cs) = max (around c) (around_all cs)

-- the same if the class is alone
abbrev pub inside : NameClassAt written → ℕ
inside syntax.any_name = 0
inside (syntax.any_except c) = around c
inside (syntax.ns_name p) = 0
inside (syntax.ns_except p c) = around c
inside (syntax.name_is n) = 0
inside (syntax.one_of cs) = around_all cs

inside_around : (c : NameClassAt written) → inside c ≤ around c
inside_around syntax.any_name = omega arith
inside_around (syntax.any_except c) = omega arith
inside_around (syntax.ns_name p) = omega arith
inside_around (syntax.ns_except p c) = omega arith
inside_around (syntax.name_is n) = omega arith
inside_around (syntax.one_of cs) = omega arith

around_inside : (c : NameClassAt written) → around c ≤ suc (inside c)
around_inside syntax.any_name = omega arith
around_inside (syntax.any_except c) = omega arith
around_inside (syntax.ns_name p) = omega arith
around_inside (syntax.ns_except p c) = omega arith
around_inside (syntax.name_is n) = omega arith
around_inside (syntax.one_of cs) = omega arith

-- the class is well spelled, and its parentheses nest within the limit
abbrev pub IsNestedClass : NameClassAt written → Type 0
IsNestedClass c = IsSpelledClass c × (inside c ≤ nesting_limit)

-- ---- patterns and components

abbrev mutual
  pub IsSpelledPattern : PatternAt written → Type 0
  IsSpelledPattern (syntax.element c p) = IsNestedClass c × IsSpelledPattern p
  IsSpelledPattern (syntax.attribute c p) = IsNestedClass c × IsSpelledPattern p
  IsSpelledPattern (syntax.list p) = IsSpelledPattern p
  IsSpelledPattern (syntax.mixed p) = IsSpelledPattern p
  IsSpelledPattern (syntax.optional p) = IsSpelledPattern p
  IsSpelledPattern (syntax.zero_or_more p) = IsSpelledPattern p
  IsSpelledPattern (syntax.one_or_more p) = IsSpelledPattern p
  IsSpelledPattern (syntax.ref n) = IsName n
  IsSpelledPattern (syntax.parent_ref n) = IsName n
  IsSpelledPattern syntax.empty = Unit {0}
  IsSpelledPattern syntax.text = Unit {0}
  IsSpelledPattern syntax.not_allowed = Unit {0}
  IsSpelledPattern (syntax.value d v) = IsWellSpelledName d × IsText v
  IsSpelledPattern (syntax.data_of d ps) = IsWellSpelledName d × AllByRecursion IsPrintableParameter ps
  IsSpelledPattern (syntax.data_except d ps p) = (IsWellSpelledName d × AllByRecursion IsPrintableParameter ps) × IsSpelledPattern p
  IsSpelledPattern (syntax.external m) = IsText m.href
  IsSpelledPattern (syntax.grammar cs) = AreSpelledComponents cs
  IsSpelledPattern (syntax.joined k ps) = AreSpelledPatterns ps

  pub AreSpelledPatterns : PatternsAt written → Type 0
  AreSpelledPatterns syntax.no_patterns = Unit {0}
  AreSpelledPatterns (syntax.pattern_and p ps) = IsSpelledPattern p × AreSpelledPatterns ps

  pub IsSpelledComponent : ComponentAt written → Type 0
  IsSpelledComponent (syntax.start m p) = IsSpelledPattern p
  IsSpelledComponent (syntax.define n m p) = IsName n × IsSpelledPattern p
  IsSpelledComponent (syntax.div cs) = AreSpelledComponents cs
  IsSpelledComponent (syntax.include m cs) = IsText m.href × AreSpelledComponents cs

  pub AreSpelledComponents : ComponentsAt written → Type 0
  AreSpelledComponents syntax.no_components = Unit {0}
  AreSpelledComponents (syntax.component_and c cs) = IsSpelledComponent c × AreSpelledComponents cs

-- ---- files

abbrev pub IsSpelledUri : Uri → Type 0
IsSpelledUri syntax.inherit = Unit {0}
IsSpelledUri (syntax.literal u) = IsText u

abbrev pub IsSpelledDeclaration : Declaration → Type 0
IsSpelledDeclaration (syntax.namespace p u) = IsSpelledUri u
IsSpelledDeclaration (syntax.default_namespace p u) = IsSpelledUri u
IsSpelledDeclaration (syntax.datatypes p u) = IsText u

abbrev pub IsSpelledBody : Body → Type 0
IsSpelledBody (syntax.pattern_body p) = IsSpelledPattern p
IsSpelledBody (syntax.grammar_body cs) = AreSpelledComponents cs

pub record IsSpelledFile (f : File) : Type 0 where
  pub declarations : AllByRecursion IsSpelledDeclaration f.declarations
  pub body : IsSpelledBody f.body

-- ---- annotations, literals, parameters

annotation_content : {ts : List Lexeme} → IsAnnotationContent ts → (r : ℕ) → Keeps ts r (Unit {0})
annotation_content (name_classes.no_content e) r = at e nothing
annotation_content (name_classes.and_token {ts} {a} {x} o c e) r = at e (past_other x o (annotation_content c r))
annotation_content (name_classes.and_annotation c d e) r =
    at e (past_sign OpenBracket tt (so (λ p. tt) (both (annotation_content c r) (past_sign CloseBracket tt (annotation_content d r)))))

annotation : {ts : List Lexeme} → MayBeAnnotation ts → (r : ℕ) → Keeps ts r (Unit {0})
annotation (name_classes.without_annotation e) r = at e nothing
annotation (name_classes.with_annotation c e) r =
    at e (past_sign OpenBracket tt (so (λ p. tt) (both (annotation_content c r) (past_sign CloseBracket tt nothing))))

all_both : (p : ℕ → Bool) (xs ys : List ℕ) → list_all p xs ≡ true → list_all p ys ≡ true → list_all p (xs ++ ys) ≡ true
all_both p [] ys h i = i
all_both p (x ∷ xs) ys h i = let q = and_parts (p x) (list_all p xs) h in rw (q.0, all_both p xs ys q.1 i) refl

text_both : (w u : List ℕ) → IsText w → IsText u → IsText (w ++ u)
text_both w u h i = (
  IsUtf8-append w u h.0 i.0,
  ap (list_all is_xml_char) (chars-append w u h.0) ∙ all_both is_xml_char (chars w) (chars u) h.1 i.1,
)

literal : {ts : List Lexeme} {v : List ℕ} → IsLiteral ts v → (r : ℕ) → Keeps ts r (IsText v)
literal (name_classes.one_segment e) r = at e (so first (past_segment nothing))
literal (name_classes.more_segments {ts} {v} {a} {w} {u} l e v-is) r =
    at e (so (λ p. subst IsText (sym v-is) (text_both w u (first p) (second p))) (past_segment (past_sign Tilde tt (literal l r))))

parameters : {ts : List Lexeme} {ps : List (List ℕ × List ℕ)} → AreParameters ts ps → (r : ℕ) → Keeps ts r (AllByRecursion IsPrintableParameter ps)
parameters (name_classes.no_parameters e) r = at e nothing
parameters (name_classes.and_parameter x n w l more e) r =
    at e (so (λ p. ((first (second p), first (second (second p))), second (second (second p))))
    (both (annotation n r) (past_word x w (past_sign Equal tt (both (literal l r) (parameters more r))))))

may_be_parameters : {ts : List Lexeme} {ps : List (List ℕ × List ℕ)} → MayBeParameters ts ps → (r : ℕ) → Keeps ts r (AllByRecursion IsPrintableParameter ps)
may_be_parameters (name_classes.without_parameters e) r = at e nothing
may_be_parameters (name_classes.with_parameters ps e) r = at e (in_braces (λ m i. parameters ps m))

inherit : {ts : List Lexeme} {p : Option (List ℕ)} → MayInherit ts p → (r : ℕ) → Keeps ts r (Unit {0})
inherit (name_classes.without_inherit e) r = at e nothing
inherit (name_classes.with_inherit {ts} {w} {x} o e) r = at e (past_keyword (past_sign Equal tt (so (λ p. tt) (past_word x o nothing))))

-- ---- name classes

abbrev FitsAround : ℕ → NameClassAt written → Type 0
FitsAround r c = IsSpelledClass c × (around c ≤ r)

abbrev FitInside : ℕ → List (NameClassAt written) → Type 0
FitInside r cs = AreSpelledClasses (syntax.classes_of cs) × (around_all (syntax.classes_of cs) ≤ r)

one_more_class : (r : ℕ) (c : NameClassAt written) (cs : List (NameClassAt written)) → FitsAround r c → FitInside r cs → FitInside r (c ∷ cs)
one_more_class r c cs h i = ((h.0, i.0), most (around c) (around_all (syntax.classes_of cs)) h.1 i.1)
  where
    most : (m n : ℕ) → m ≤ r → n ≤ r → max m n ≤ r
    most m n l k = omega (arith, l, k)

basic_inside : (r : ℕ) (c : NameClassAt written) → FitsAround r c → IsSpelledClass c × (inside c ≤ r)
basic_inside r c h = (h.0, let i = inside_around c in let l = h.1 in omega (arith, i, l))

parentheses_around : (r m : ℕ) (c : NameClassAt written) → r ≡ suc m → IsSpelledClass c × (inside c ≤ m) → FitsAround r c
parentheses_around r m c e h = (h.0, let a = around_inside c in let l = h.1 in omega (arith, e, a, l))

mutual
  class : {ts : List Lexeme} {c : NameClassAt written} → IsClass ts c → (r : ℕ) → Keeps ts r (IsSpelledClass c × (inside c ≤ r))
  class (name_classes.basic_class {ts} {c} b) r = so (basic_inside r c) (basic b r)
  class (name_classes.choice_class {ts} {d} {a} {b} {c} {cs} i more e d-is) r =
      at e (so (λ p. subst (λ (d : NameClassAt written). IsSpelledClass d × (inside d ≤ r)) (sym d-is) (one_more_class r c cs (first p) (second p)))
      (both (basic i r) (more_classes more r)))
  class (name_classes.any_except n b e) r = at e (so second (both (annotation n r) (past_sign Star tt (past_sign Minus tt (basic b r)))))
  class (name_classes.ns_except n b e) r = at e (so second (both (annotation n r) (past_ns (past_sign Minus tt (basic b r)))))

  more_classes : {ts : List Lexeme} {cs : List (NameClassAt written)} → AreMoreClasses ts cs → (r : ℕ) → Keeps ts r (FitInside r cs)
  more_classes (name_classes.last_class {ts} {a} {c} b e) r = at e (past_sign Bar tt (so (λ p. one_more_class r c [] p (tt, omega arith)) (basic b r)))
  more_classes (name_classes.more_classes {ts} {cs} {a} {b} {c} i more e) r =
      at e (past_sign Bar tt (so (λ p. one_more_class r c cs (first p) (second p)) (both (basic i r) (more_classes more r))))

  basic : {ts : List Lexeme} {c : NameClassAt written} → IsBasic ts c → (r : ℕ) → Keeps ts r (FitsAround r c)
  basic (name_classes.annotated_basic n b e) r = at e (so second (both (annotation n r) (bare_basic b r)))

  bare_basic : {ts : List Lexeme} {c : NameClassAt written} → IsBareBasic ts c → (r : ℕ) → Keeps ts r (FitsAround r c)
  bare_basic (name_classes.word_class {ts} {x} o e) r = at e (so (λ p. (first p, omega arith)) (past_word x o nothing))
  bare_basic (name_classes.cname_class e) r = at e (so (λ p. (first p, omega arith)) (past_name nothing))
  bare_basic (name_classes.ns_class e) r = at e (so (λ p. (tt, omega arith)) (past_ns nothing))
  bare_basic (name_classes.any_class e) r = at e (so (λ p. (tt, omega arith)) (past_sign Star tt nothing))
  bare_basic (name_classes.class_in_parens {ts} {a} {c} k e) r = at e (in_parentheses (λ m i. so (parentheses_around r m c i) (class k m)))

-- ---- patterns and components

nested_class : (r : ℕ) (c : NameClassAt written) → r ≤ nesting_limit → IsSpelledClass c × (inside c ≤ r) → IsNestedClass c
nested_class r c l h = (h.0, let i = h.1 in omega (arith, l, i))

less_room : (r m : ℕ) → r ≤ nesting_limit → r ≡ suc m → m ≤ nesting_limit
less_room r m l e = omega (arith, l, e)

mutual
  pattern : {ts : List Lexeme} {t : PatternAt written} → IsPattern ts t → (r : ℕ) → r ≤ nesting_limit → Keeps ts r (IsSpelledPattern t)
  pattern (grammar.one_particle p) r l = particle p r l
  pattern (grammar.particles {ts} {u} {a} {b} {s} {k} {t} {us} c p more e u-is) r l =
      at e (so (λ q. subst IsSpelledPattern (sym u-is) q) (both (particle p r l) (more_particles more k c r l)))
  pattern (grammar.data_except x n d ps p e) r l =
      at e (so (λ q. ((first (second q), first (second (second q))), second (second (second q))))
      (both (annotation n r) (past_type x d (both (may_be_parameters ps r) (past_sign Minus tt (primary p r l))))))

  more_particles : {s : Sign} {ts : List Lexeme} {us : List (PatternAt written)} → AreMore s ts us → (k : Connector) → connector_of s ≡ Some k
      → (r : ℕ) → r ≤ nesting_limit → Keeps ts r (AreSpelledPatterns (syntax.patterns_of us))
  more_particles (grammar.last_particle {s} p e) k c r l = at e (past_connector s c (so (λ q. (q, tt)) (particle p r l)))
  more_particles (grammar.more_particles {s} p more e) k c r l = at e (past_connector s c (both (particle p r l) (more_particles more k c r l)))

  particle : {ts : List Lexeme} {t : PatternAt written} → IsParticle ts t → (r : ℕ) → r ≤ nesting_limit → Keeps ts r (IsSpelledPattern t)
  particle (grammar.once p) r l = primary p r l
  particle (grammar.optional p e) r l = at e (so first (both (primary p r l) (past_sign Question tt nothing)))
  particle (grammar.zero_or_more p e) r l = at e (so first (both (primary p r l) (past_sign Star tt nothing)))
  particle (grammar.one_or_more p e) r l = at e (so first (both (primary p r l) (past_sign Plus tt nothing)))

  primary : {ts : List Lexeme} {t : PatternAt written} → IsPrimary ts t → (r : ℕ) → r ≤ nesting_limit → Keeps ts r (IsSpelledPattern t)
  primary (grammar.annotated_primary n p e) r l = at e (so second (both (annotation n r) (bare_primary p r l)))

  bare_primary : {ts : List Lexeme} {t : PatternAt written} → IsBarePrimary ts t → (r : ℕ) → r ≤ nesting_limit → Keeps ts r (IsSpelledPattern t)
  bare_primary (grammar.element {ts} {a} {b} {c} k p e) r l =
      at e (past_keyword (so (λ q. (nested_class r c l (first q), second q)) (both (class k r) (braced p r l))))
  bare_primary (grammar.attribute {ts} {a} {b} {c} k p e) r l =
      at e (past_keyword (so (λ q. (nested_class r c l (first q), second q)) (both (class k r) (braced p r l))))
  bare_primary (grammar.list p e) r l = at e (past_keyword (braced p r l))
  bare_primary (grammar.mixed p e) r l = at e (past_keyword (braced p r l))
  bare_primary (grammar.ref e) r l = at e (so first (past_identifier nothing))
  bare_primary (grammar.parent_ref e) r l = at e (past_keyword (so first (past_identifier nothing)))
  bare_primary (grammar.empty e) r l = at e (past_keyword nothing)
  bare_primary (grammar.text e) r l = at e (past_keyword nothing)
  bare_primary (grammar.not_allowed e) r l = at e (past_keyword nothing)
  bare_primary (grammar.untyped_value v) r l = so (λ q. (tt, q)) (literal v r)
  bare_primary (grammar.value {ts} {a} {x} d v e) r l = at e (past_type x d (literal v r))
  bare_primary (grammar.data_of {ts} {a} {x} d ps e) r l = at e (past_type x d (may_be_parameters ps r))
  bare_primary (grammar.external v i e t-is) r l =
      at e (past_keyword (so (λ q. subst IsSpelledPattern (sym t-is) (first q)) (both (literal v r) (inherit i r))))
  bare_primary (grammar.grammar cs e t-is) r l =
      at e (past_keyword (so (λ q. subst IsSpelledPattern (sym t-is) q) (in_braces (λ m i. components cs m (less_room r m l i)))))
  bare_primary (grammar.in_parens p e) r l = at e (in_parentheses (λ m i. pattern p m (less_room r m l i)))

  braced : {ts : List Lexeme} {t : PatternAt written} → IsBraced ts t → (r : ℕ) → r ≤ nesting_limit → Keeps ts r (IsSpelledPattern t)
  braced (grammar.in_braces p e) r l = at e (in_braces (λ m i. pattern p m (less_room r m l i)))

  components : {w : Setting} {ts : List Lexeme} {cs : List (ComponentAt written)} → AreComponents w ts cs → (r : ℕ) → r ≤ nesting_limit
      → Keeps ts r (AreSpelledComponents (syntax.components_of cs))
  components (grammar.no_components e) r l = at e nothing
  components (grammar.and_component c cs e) r l = at e (both (component c r l) (components cs r l))

  component : {w : Setting} {ts : List Lexeme} {c : ComponentAt written} → IsComponent w ts c → (r : ℕ) → r ≤ nesting_limit → Keeps ts r (IsSpelledComponent c)
  component (grammar.annotated_component n c e) r l = at e (so second (both (annotation n r) (bare_component c r l)))

  bare_component : {w : Setting} {ts : List Lexeme} {c : ComponentAt written} → IsBareComponent w ts c → (r : ℕ) → r ≤ nesting_limit
      → Keeps ts r (IsSpelledComponent c)
  bare_component (grammar.start {w} {ts} {a} {x} m p e) r l = at e (past_keyword (past_method x m (pattern p r l)))
  bare_component (grammar.define {w} {ts} {a} {x} m p e) r l = at e (past_identifier (past_method x m (pattern p r l)))
  bare_component (grammar.div cs e c-is) r l =
      at e (past_keyword (so (λ q. subst IsSpelledComponent (sym c-is) q) (in_braces (λ m i. components cs m (less_room r m l i)))))
  bare_component (grammar.include w v p o e c-is) r l =
      at e (past_keyword (so (λ q. subst IsSpelledComponent (sym c-is) (first q, second (second q)))
      (both (literal v r) (both (inherit p r) (overrides o r l)))))

  overrides : {ts : List Lexeme} {cs : List (ComponentAt written)} → MayOverride ts cs → (r : ℕ) → r ≤ nesting_limit
      → Keeps ts r (AreSpelledComponents (syntax.components_of cs))
  overrides (grammar.without_overrides e) r l = at e nothing
  overrides (grammar.with_overrides cs e) r l = at e (in_braces (λ m i. components cs m (less_room r m l i)))

-- ---- files

uri : {ts : List Lexeme} {u : Uri} → IsUri ts u → (r : ℕ) → Keeps ts r (IsSpelledUri u)
uri (grammar.inherit e) r = at e (past_keyword nothing)
uri (grammar.literal l) r = literal l r

declaration : {ts : List Lexeme} {d : Declaration} → IsDeclaration ts d → (r : ℕ) → Keeps ts r (IsSpelledDeclaration d)
declaration (grammar.namespace {ts} {a} {x} o u e) r = at e (past_keyword (so second (past_word x o (past_sign Equal tt (uri u r)))))
declaration (grammar.default_alone u e) r = at e (past_keyword (past_keyword (past_sign Equal tt (uri u r))))
declaration (grammar.default_with_prefix {ts} {a} {x} o u e) r =
    at e (past_keyword (past_keyword (so second (past_word x o (past_sign Equal tt (uri u r))))))
declaration (grammar.datatypes {ts} {a} {x} o v e) r = at e (past_keyword (so second (past_word x o (past_sign Equal tt (literal v r)))))

declarations : {ts : List Lexeme} {ds : List Declaration} → AreDeclarations ts ds → (r : ℕ) → Keeps ts r (AllByRecursion IsSpelledDeclaration ds)
declarations (grammar.no_declarations e) r = at e nothing
declarations (grammar.and_declaration d ds e) r = at e (both (declaration d r) (declarations ds r))

body : {ts : List Lexeme} {b : Body} → IsBody ts b → (r : ℕ) → r ≤ nesting_limit → Keeps ts r (IsSpelledBody b)
body (grammar.pattern_body p) r l = pattern p r l
body (grammar.grammar_body cs b-is) r l = so (λ q. subst IsSpelledBody (sym b-is) q) (components cs r l)

pub file : {ts : List Lexeme} {f : File} → IsFile ts f → (r : ℕ) → r ≤ nesting_limit → Keeps ts r (IsSpelledFile f)
file (grammar.file ds b e) r l = at e (so (λ q. record { declarations = first q; body = second q }) (both (declarations ds r) (body b r l)))

-- Brackets counted over concatenated tokens: each production closes all brackets that it opens.
use Rattle.std.proofs.Common.{◌≡◌, ℕ, zero, suc, ◌+◌, ◌≤◌, min, Bool, true, false, cond, List, [], ◌∷◌, ◌++◌, length, take, Option, Some, refl, sym, ap, subst}
use Rattle.std.proofs.Common.{◌∙◌, arith}
use Rattle.std.proofs.lemmas.List.{take-append-le, take_min}
use Rattle.std.proofs.lemmas.List.Sums.{sum_by-cons, sum_by-append}
use Rattle.std.proofs.Math.Seq.{take-append-add}
use Rattle.rng_model.specs.simple.Tree.{Connector}
use Rattle.rnc_model.specs.declared.token.Keyword.TheVariants as keywords
use Rattle.rnc_model.specs.declared.token.Sign.{Sign}
use Rattle.rnc_model.specs.declared.token.Sign.TheVariants.{Equal, BarEqual, AndEqual, Comma, Bar, And, Question, Star, Plus, Minus, OpenBrace, CloseBrace}
use Rattle.rnc_model.specs.declared.token.Sign.TheVariants.{OpenParenthesis, CloseParenthesis, OpenBracket, CloseBracket, Tilde}
use Rattle.rng_model.specs.declared.method.Method.{Method}
use Rattle.rnc_model.specs.tokens.Cut.{Lexeme, keyword, identifier, cname, ns_name, segment, sign}
use Rattle.rnc_model.specs.grammar.Syntax.{written, NameClassAt, DatatypeName, PatternAt, ComponentAt, Uri, Declaration}
use Rattle.rnc_model.specs.grammar.NameClasses as name_classes
use Rattle.rnc_model.specs.grammar.Grammar as grammar
use Rattle.rnc_model.specs.grammar.NameClasses.{word_of, type_of, method_of, connector_of, IsLiteral, AreParameters, MayBeParameters, MayInherit, IsClass}
use Rattle.rnc_model.specs.grammar.NameClasses.{AreMoreClasses, IsBasic, is_bracket, IsAnnotationContent, MayBeAnnotation, IsBareBasic}
use Rattle.rnc_model.specs.grammar.Grammar.{Setting}
use Rattle.rnc_model.specs.grammar.Grammar.{IsPattern, AreMore, IsParticle, IsPrimary, IsBraced, AreComponents, IsComponent, MayOverride}
use Rattle.rnc_model.specs.grammar.Grammar.{IsBarePrimary, IsBareComponent, IsUri, IsDeclaration}
use Rattle.rnc_model.specs.grammar.Grammar.{AreDeclarations}
use Rattle.rnc_model.specs.grammar.Sentence.{is_opening, is_closing, openings, closings, NestsWithin}

-- as many brackets are closed as are opened
abbrev pub Balanced : List Lexeme → Type 0
Balanced ts = openings ts ≡ closings ts

abbrev weight : Bool → ℕ
weight b = cond b 1 0

abbrev pub counts : Lexeme → ℕ
counts x = cond (is_opening x) 1 0

abbrev pub discounts : Lexeme → ℕ
discounts x = cond (is_closing x) 1 0

pub openings-append : (a b : List Lexeme) → openings (a ++ b) ≡ openings a + openings b
openings-append a b = sum_by-append counts a b

pub closings-append : (a b : List Lexeme) → closings (a ++ b) ≡ closings a + closings b
closings-append a b = sum_by-append discounts a b

pub openings-cons : (x : Lexeme) (b : List Lexeme) → openings (x ∷ b) ≡ counts x + openings b
openings-cons x b = sum_by-cons counts x b

pub closings-cons : (x : Lexeme) (b : List Lexeme) → closings (x ∷ b) ≡ discounts x + closings b
closings-cons x b = sum_by-cons discounts x b

-- a token that is not a bracket
pub record Plain (x : Lexeme) : Type 0 where
  pub no_opening : is_opening x ≡ false
  pub no_closing : is_closing x ≡ false

-- an opening bracket and its closing one
pub record ArePair (x y : Lexeme) : Type 0 where
  pub opens : is_opening x ≡ true
  pub opens_only : is_closing x ≡ false
  pub closes : is_closing y ≡ true
  pub closes_only : is_opening y ≡ false

pub braces : ArePair (sign OpenBrace) (sign CloseBrace)
braces = record { opens = refl; opens_only = refl; closes = refl; closes_only = refl }

pub parens : ArePair (sign OpenParenthesis) (sign CloseParenthesis)
parens = record { opens = refl; opens_only = refl; closes = refl; closes_only = refl }

abbrev AreWithin : ℕ → List Lexeme → Type 0
AreWithin n ts = openings ts ≤ closings ts + n

-- ---- parts of tokens that nest within a limit

front_within : (n : ℕ) (a b : List Lexeme) → NestsWithin n (a ++ b) → NestsWithin n a
front_within n a b h k =
    subst (AreWithin n) (take-append-le (min k (length a)) a b (omega arith) ∙ take_min k a) (h (min k (length a)))

rest_within : (n : ℕ) (a b : List Lexeme) → Balanced a → NestsWithin n (a ++ b) → NestsWithin n b
rest_within n a b even h k =
    let q : AreWithin n (a ++ take k b) = subst (AreWithin n) (take-append-add a b k) (h (length a + k)) in
    omega (arith, q, even, openings-append a (take k b), closings-append a (take k b))

tail_within : (n : ℕ) (x : Lexeme) (ts : List Lexeme) → Plain x → NestsWithin n (x ∷ ts) → NestsWithin n ts
tail_within n x ts plain h k =
    let q : AreWithin n (x ∷ take k ts) = h (suc k) in
    omega (arith, q, openings-cons x (take k ts), closings-cons x (take k ts), ap weight plain.no_opening, ap weight plain.no_closing)

opened_within : (n : ℕ) (x : Lexeme) (ts : List Lexeme) → is_opening x ≡ true → is_closing x ≡ false → NestsWithin (suc n) (x ∷ ts) → NestsWithin n ts
opened_within n x ts o c h k =
    let q : AreWithin (suc n) (x ∷ take k ts) = h (suc k) in
    omega (arith, q, openings-cons x (take k ts), closings-cons x (take k ts), ap weight o, ap weight c)

module _ (n : ℕ) (ts : List Lexeme) where
  pub first_within : (a b : List Lexeme) → ts ≡ a ++ b → NestsWithin n ts → NestsWithin n a
  first_within a b e h = front_within n a b (subst (NestsWithin n) e h)

  pub second_within : (a b : List Lexeme) → ts ≡ a ++ b → Balanced a → NestsWithin n ts → NestsWithin n b
  second_within a b e even h = rest_within n a b even (subst (NestsWithin n) e h)

  pub behind_within : (x : Lexeme) (a : List Lexeme) → ts ≡ x ∷ a → Plain x → NestsWithin n ts → NestsWithin n a
  behind_within x a e plain h = tail_within n x a plain (subst (NestsWithin n) e h)

pub inside_within : (n : ℕ) (ts : List Lexeme) (x y : Lexeme) (a : List Lexeme) → ArePair x y → ts ≡ x ∷ (a ++ y ∷ []) → NestsWithin (suc n) ts
    → NestsWithin n a
inside_within n ts x y a pair e h = front_within n a (y ∷ []) (opened_within n x (a ++ y ∷ []) pair.opens pair.opens_only (subst (NestsWithin (suc n)) e h))

-- a bracket does not nest within zero
pub none_within : (ts : List Lexeme) (x : Lexeme) (a : List Lexeme) → is_opening x ≡ true → is_closing x ≡ false → ts ≡ x ∷ a → NestsWithin 0 ts → ⊥
none_within ts x a o c e h =
    let q : AreWithin 0 (x ∷ []) = subst (NestsWithin 0) e h 1 in
    omega (arith, q, openings-cons x [], closings-cons x [], ap weight o, ap weight c)

openings_few : (ts : List Lexeme) → openings ts ≤ length ts
openings_few [] = omega arith
openings_few (x ∷ ts) = few (is_opening x) (openings ts) (length ts) (openings (x ∷ ts)) (openings-cons x ts) (openings_few ts) where
  few : (b : Bool) (o l w : ℕ) → w ≡ cond b 1 0 + o → o ≤ l → w ≤ suc l
  few true o l w e le = omega (arith, e, le)
  few false o l w e le = omega (arith, e, le)

take_few : (k : ℕ) (ts : List Lexeme) → length (take k ts) ≤ length ts
take_few zero ts = omega arith
take_few (suc k) [] = omega arith
take_few (suc k) (x ∷ ts) = let h = take_few k ts in omega (arith, h)

-- any tokens nest within their number
pub length_within : (ts : List Lexeme) → NestsWithin (length ts) ts
length_within ts k = let a = openings_few (take k ts) in let b = take_few k ts in omega (arith, a, b)

-- ---- balanced parts

plain_even : (x : Lexeme) (a ts : List Lexeme) → Plain x → ts ≡ x ∷ a → Balanced a → Balanced ts
plain_even x a ts plain e even = subst Balanced (sym e) (omega (
  arith,
  even,
  openings-cons x a,
  closings-cons x a,
  ap weight plain.no_opening,
  ap weight plain.no_closing,
))

pub join_even : (a b ts : List Lexeme) → ts ≡ a ++ b → Balanced a → Balanced b → Balanced ts
join_even a b ts e f g = subst Balanced (sym e) (omega (arith, f, g, openings-append a b, closings-append a b))

bracket_even : (x y : Lexeme) (a ts : List Lexeme) → ArePair x y → ts ≡ x ∷ (a ++ y ∷ []) → Balanced a → Balanced ts
bracket_even x y a ts pair e even =
    subst Balanced (sym e) (omega (
      arith,
      even,
      openings-cons x (a ++ y ∷ []),
      closings-cons x (a ++ y ∷ []),
      openings-append a (y ∷ []),
      closings-append a (y ∷ []),
      openings-cons y [],
      closings-cons y [],
      ap weight pair.opens,
      ap weight pair.opens_only,
      ap weight pair.closes,
      ap weight pair.closes_only,
    ))

pub plain_word : (x : Lexeme) (w : List ℕ) → word_of x ≡ Some w → Plain x
plain_word (identifier v) w e = record { no_opening = refl; no_closing = refl }
plain_word (keyword k s) w e = record { no_opening = refl; no_closing = refl }
plain_word _ w e = absurd cc

pub plain_type : (x : Lexeme) (d : DatatypeName written) → type_of x ≡ Some d → Plain x
plain_type (cname p l) d e = record { no_opening = refl; no_closing = refl }
plain_type (keyword k s) d e = record { no_opening = refl; no_closing = refl }
plain_type _ d e = absurd cc

pub plain_method : (x : Lexeme) (m : Method) → method_of x ≡ Some m → Plain x
plain_method (sign Equal) m e = record { no_opening = refl; no_closing = refl }
plain_method (sign BarEqual) m e = record { no_opening = refl; no_closing = refl }
plain_method (sign AndEqual) m e = record { no_opening = refl; no_closing = refl }
plain_method _ m e = absurd cc

pub plain_connector : (s : Sign) (k : Connector) → connector_of s ≡ Some k → Plain (sign s)
plain_connector Comma k e = record { no_opening = refl; no_closing = refl }
plain_connector And k e = record { no_opening = refl; no_closing = refl }
plain_connector Bar k e = record { no_opening = refl; no_closing = refl }
plain_connector _ k e = absurd cc

pub plain : (x : Lexeme) → is_opening x ≡ false → is_closing x ≡ false → Plain x
plain x o c = record { no_opening = o; no_closing = c }

plain_content : (x : Lexeme) → is_bracket x ≡ false → Plain x
plain_content (sign OpenBracket) e = absurd cc
plain_content (sign CloseBracket) e = absurd cc
plain_content (sign OpenBrace) e = absurd cc
plain_content (sign CloseBrace) e = absurd cc
plain_content (sign OpenParenthesis) e = absurd cc
plain_content (sign CloseParenthesis) e = absurd cc
plain_content _ e = record { no_opening = refl; no_closing = refl }

content_even : {ts : List Lexeme} → IsAnnotationContent ts → Balanced ts
content_even (name_classes.no_content e) = subst Balanced (sym e) refl
content_even {ts} (name_classes.and_token {a = a} {x = x} is p e) = plain_even x a ts (plain_content x is) e (content_even p)
content_even {ts} (name_classes.and_annotation {a = a} {b = b} p q e) =
    plain_even (sign OpenBracket) (a ++ sign CloseBracket ∷ b) ts (plain _ refl refl) e
    (join_even a (sign CloseBracket ∷ b) (a ++ sign CloseBracket ∷ b) refl (content_even p) (plain_even (sign CloseBracket) b (sign CloseBracket ∷ b)
    (plain _ refl refl) refl (content_even q)))

pub annotation_even : {ts : List Lexeme} → MayBeAnnotation ts → Balanced ts
annotation_even (name_classes.without_annotation e) = subst Balanced (sym e) refl
annotation_even {ts} (name_classes.with_annotation {a = a} p e) = plain_even (sign OpenBracket) (a ++ sign CloseBracket ∷ []) ts (plain _ refl refl) e
    (join_even a (sign CloseBracket ∷ []) (a ++ sign CloseBracket ∷ []) refl (content_even p) refl)

pub literal_even : {ts : List Lexeme} {v : List ℕ} → IsLiteral ts v → Balanced ts
literal_even (name_classes.one_segment e) = subst Balanced (sym e) refl
literal_even {ts} (name_classes.more_segments {a = a} {w = w} p e f) = plain_even (segment w) (sign Tilde ∷ a) ts (plain _ refl refl) e
    (plain_even (sign Tilde) a (sign Tilde ∷ a) (plain _ refl refl) refl (literal_even p))

pub parameters_even : {ts : List Lexeme} {ps : List (List ℕ × List ℕ)} → AreParameters ts ps → Balanced ts
parameters_even (name_classes.no_parameters e) = subst Balanced (sym e) refl
parameters_even {ts} (name_classes.and_parameter {n = n} {a = a} {b = b} {w = w} x may is p q e) =
    join_even n (x ∷ sign Equal ∷ (a ++ b)) ts e (annotation_even may)
    (plain_even x (sign Equal ∷ (a ++ b)) (x ∷ sign Equal ∷ (a ++ b)) (plain_word x w is) refl
    (plain_even (sign Equal) (a ++ b) (sign Equal ∷ (a ++ b)) (plain _ refl refl) refl (join_even a b (a ++ b) refl (literal_even p) (parameters_even q))))

pub may_parameters_even : {ts : List Lexeme} {ps : List (List ℕ × List ℕ)} → MayBeParameters ts ps → Balanced ts
may_parameters_even (name_classes.without_parameters e) = subst Balanced (sym e) refl
may_parameters_even {ts} (name_classes.with_parameters {a = a} p e) = bracket_even _ _ a ts braces e (parameters_even p)

pub may_inherit_even : {ts : List Lexeme} {p : Option (List ℕ)} → MayInherit ts p → Balanced ts
may_inherit_even (name_classes.without_inherit e) = subst Balanced (sym e) refl
may_inherit_even {ts} (name_classes.with_inherit {w = w} {x = x} {s = s} is e) =
    plain_even (keyword keywords.Inherit s) (sign Equal ∷ x ∷ []) ts (plain _ refl refl) e
    (plain_even (sign Equal) (x ∷ []) (sign Equal ∷ x ∷ []) (plain _ refl refl) refl (plain_even x [] (x ∷ []) (plain_word x w is) refl refl))

mutual
  pub class_even : {ts : List Lexeme} {c : NameClassAt written} → IsClass ts c → Balanced ts
  class_even (name_classes.basic_class p) = basic_even p
  class_even {ts} (name_classes.choice_class {a = a} {b = b} p q e f) = join_even a b ts e (basic_even p) (more_classes_even q)
  class_even {ts} (name_classes.any_except {n = n} {a = a} may p e) = join_even n (sign Star ∷ sign Minus ∷ a) ts e (annotation_even may)
      (plain_even (sign Star) (sign Minus ∷ a) (sign Star ∷ sign Minus ∷ a) (plain _ refl refl) refl
      (plain_even (sign Minus) a (sign Minus ∷ a) (plain _ refl refl) refl (basic_even p)))
  class_even {ts} (name_classes.ns_except {n = n} {a = a} {p = w} may p e) = join_even n (ns_name w ∷ sign Minus ∷ a) ts e (annotation_even may)
      (plain_even (ns_name w) (sign Minus ∷ a) (ns_name w ∷ sign Minus ∷ a) (plain _ refl refl) refl
      (plain_even (sign Minus) a (sign Minus ∷ a) (plain _ refl refl) refl (basic_even p)))

  pub more_classes_even : {ts : List Lexeme} {cs : List (NameClassAt written)} → AreMoreClasses ts cs → Balanced ts
  more_classes_even {ts} (name_classes.last_class {a = a} p e) = plain_even (sign Bar) a ts (plain _ refl refl) e (basic_even p)
  more_classes_even {ts} (name_classes.more_classes {a = a} {b = b} p q e) = plain_even (sign Bar) (a ++ b) ts (plain _ refl refl) e
      (join_even a b (a ++ b) refl (basic_even p) (more_classes_even q))

  pub basic_even : {ts : List Lexeme} {c : NameClassAt written} → IsBasic ts c → Balanced ts
  basic_even {ts} (name_classes.annotated_basic {n = n} {a = a} may p e) = join_even n a ts e (annotation_even may) (bare_basic_even p)

  pub bare_basic_even : {ts : List Lexeme} {c : NameClassAt written} → IsBareBasic ts c → Balanced ts
  bare_basic_even {ts} (name_classes.word_class {x = x} {w = w} is e) = plain_even x [] ts (plain_word x w is) e refl
  bare_basic_even (name_classes.cname_class e) = subst Balanced (sym e) refl
  bare_basic_even (name_classes.ns_class e) = subst Balanced (sym e) refl
  bare_basic_even (name_classes.any_class e) = subst Balanced (sym e) refl
  bare_basic_even {ts} (name_classes.class_in_parens {a = a} p e) = bracket_even _ _ a ts parens e (class_even p)

mutual
  pub pattern_even : {ts : List Lexeme} {t : PatternAt written} → IsPattern ts t → Balanced ts
  pattern_even (grammar.one_particle p) = particle_even p
  pattern_even {ts} (grammar.particles {a = a} {b = b} {s = s} {k = k} is p q e f) = join_even a b ts e (particle_even p) (more_even q k is)
  pattern_even {ts} (grammar.data_except {n = n} {a = a} {b = b} {d = d} x may is p q e) =
      join_even n (x ∷ (a ++ sign Minus ∷ b)) ts e (annotation_even may)
      (plain_even x (a ++ sign Minus ∷ b) (x ∷ (a ++ sign Minus ∷ b)) (plain_type x d is) refl (join_even a (sign Minus ∷ b) (a ++ sign Minus ∷ b) refl
      (may_parameters_even p) (plain_even (sign Minus) b (sign Minus ∷ b) (plain _ refl refl) refl (primary_even q))))

  pub more_even : {s : Sign} {ts : List Lexeme} {us : List (PatternAt written)} → AreMore s ts us → (k : Connector) → connector_of s ≡ Some k → Balanced ts
  more_even {s} {ts} (grammar.last_particle {a = a} p e) k is = plain_even (sign s) a ts (plain_connector s k is) e (particle_even p)
  more_even {s} {ts} (grammar.more_particles {a = a} {b = b} p q e) k is = plain_even (sign s) (a ++ b) ts (plain_connector s k is) e
      (join_even a b (a ++ b) refl (particle_even p) (more_even q k is))

  pub particle_even : {ts : List Lexeme} {t : PatternAt written} → IsParticle ts t → Balanced ts
  particle_even (grammar.once p) = primary_even p
  particle_even {ts} (grammar.optional {a = a} p e) = join_even a (sign Question ∷ []) ts e (primary_even p) refl
  particle_even {ts} (grammar.zero_or_more {a = a} p e) = join_even a (sign Star ∷ []) ts e (primary_even p) refl
  particle_even {ts} (grammar.one_or_more {a = a} p e) = join_even a (sign Plus ∷ []) ts e (primary_even p) refl

  pub primary_even : {ts : List Lexeme} {t : PatternAt written} → IsPrimary ts t → Balanced ts
  primary_even {ts} (grammar.annotated_primary {n = n} {a = a} may p e) = join_even n a ts e (annotation_even may) (bare_primary_even p)

  pub bare_primary_even : {ts : List Lexeme} {t : PatternAt written} → IsBarePrimary ts t → Balanced ts
  bare_primary_even {ts} (grammar.element {a = a} {b = b} p q e) = plain_even _ (a ++ b) ts (plain _ refl refl) e
      (join_even a b (a ++ b) refl (class_even p) (braced_even q))
  bare_primary_even {ts} (grammar.attribute {a = a} {b = b} p q e) = plain_even _ (a ++ b) ts (plain _ refl refl) e
      (join_even a b (a ++ b) refl (class_even p) (braced_even q))
  bare_primary_even {ts} (grammar.list {a = a} p e) = plain_even _ a ts (plain _ refl refl) e (braced_even p)
  bare_primary_even {ts} (grammar.mixed {a = a} p e) = plain_even _ a ts (plain _ refl refl) e (braced_even p)
  bare_primary_even (grammar.ref e) = subst Balanced (sym e) refl
  bare_primary_even (grammar.parent_ref e) = subst Balanced (sym e) refl
  bare_primary_even (grammar.empty e) = subst Balanced (sym e) refl
  bare_primary_even (grammar.text e) = subst Balanced (sym e) refl
  bare_primary_even (grammar.not_allowed e) = subst Balanced (sym e) refl
  bare_primary_even (grammar.untyped_value p) = literal_even p
  bare_primary_even {ts} (grammar.value {a = a} {x = x} {d = d} is p e) = plain_even x a ts (plain_type x d is) e (literal_even p)
  bare_primary_even {ts} (grammar.data_of {a = a} {x = x} {d = d} is p e) = plain_even x a ts (plain_type x d is) e (may_parameters_even p)
  bare_primary_even {ts} (grammar.external {a = a} {b = b} p q e f) = plain_even _ (a ++ b) ts (plain _ refl refl) e
      (join_even a b (a ++ b) refl (literal_even p) (may_inherit_even q))
  bare_primary_even {ts} (grammar.grammar {a = a} p e f) = plain_even _ (sign OpenBrace ∷ (a ++ sign CloseBrace ∷ [])) ts (plain _ refl refl) e
      (bracket_even _ _ a (sign OpenBrace ∷ (a ++ sign CloseBrace ∷ [])) braces refl (components_even p))
  bare_primary_even {ts} (grammar.in_parens {a = a} p e) = bracket_even _ _ a ts parens e (pattern_even p)

  pub braced_even : {ts : List Lexeme} {t : PatternAt written} → IsBraced ts t → Balanced ts
  braced_even {ts} (grammar.in_braces {a = a} p e) = bracket_even _ _ a ts braces e (pattern_even p)

  pub components_even : {w : Setting} {ts : List Lexeme} {cs : List (ComponentAt written)} → AreComponents w ts cs → Balanced ts
  components_even (grammar.no_components e) = subst Balanced (sym e) refl
  components_even {w} {ts} (grammar.and_component {a = a} {b = b} p q e) = join_even a b ts e (component_even p) (components_even q)

  pub component_even : {w : Setting} {ts : List Lexeme} {c : ComponentAt written} → IsComponent w ts c → Balanced ts
  component_even {w} {ts} (grammar.annotated_component {n = n} {a = a} may p e) = join_even n a ts e (annotation_even may) (bare_component_even p)

  pub bare_component_even : {w : Setting} {ts : List Lexeme} {c : ComponentAt written} → IsBareComponent w ts c → Balanced ts
  bare_component_even {w} {ts} (grammar.start {a = a} {x = x} {m = m} is p e) = plain_even _ (x ∷ a) ts (plain _ refl refl) e
      (plain_even x a (x ∷ a) (plain_method x m is) refl (pattern_even p))
  bare_component_even {w} {ts} (grammar.define {a = a} {x = x} {m = m} is p e) = plain_even _ (x ∷ a) ts (plain _ refl refl) e
      (plain_even x a (x ∷ a) (plain_method x m is) refl (pattern_even p))
  bare_component_even {w} {ts} (grammar.div {a = a} p e f) = plain_even _ (sign OpenBrace ∷ (a ++ sign CloseBrace ∷ [])) ts (plain _ refl refl) e
      (bracket_even _ _ a (sign OpenBrace ∷ (a ++ sign CloseBrace ∷ [])) braces refl (components_even p))
  bare_component_even {w} {ts} (grammar.include {a = a} {b = b} {o = o} w-is p q r e f) = plain_even _ (a ++ (b ++ o)) ts (plain _ refl refl) e
      (join_even a (b ++ o) (a ++ (b ++ o)) refl (literal_even p) (join_even b o (b ++ o) refl (may_inherit_even q) (overrides_even r)))

  pub overrides_even : {ts : List Lexeme} {cs : List (ComponentAt written)} → MayOverride ts cs → Balanced ts
  overrides_even (grammar.without_overrides e) = subst Balanced (sym e) refl
  overrides_even {ts} (grammar.with_overrides {a = a} p e) = bracket_even _ _ a ts braces e (components_even p)

pub uri_even : {ts : List Lexeme} {u : Uri} → IsUri ts u → Balanced ts
uri_even (grammar.inherit e) = subst Balanced (sym e) refl
uri_even (grammar.literal p) = literal_even p

pub declaration_even : {ts : List Lexeme} {d : Declaration} → IsDeclaration ts d → Balanced ts
declaration_even {ts} (grammar.namespace {a = a} {x = x} {p = p} is q e) = plain_even _ (x ∷ sign Equal ∷ a) ts (plain _ refl refl) e
    (plain_even x (sign Equal ∷ a) (x ∷ sign Equal ∷ a) (plain_word x p is) refl (plain_even _ a (sign Equal ∷ a) (plain _ refl refl) refl (uri_even q)))
declaration_even {ts} (grammar.default_alone {a = a} {s = s} q e) = plain_even _ (keyword keywords.Namespace s ∷ sign Equal ∷ a) ts (plain _ refl refl) e
    (plain_even _ (sign Equal ∷ a) (keyword keywords.Namespace s ∷ sign Equal ∷ a) (plain _ refl refl) refl
    (plain_even _ a (sign Equal ∷ a) (plain _ refl refl) refl (uri_even q)))
declaration_even {ts} (grammar.default_with_prefix {a = a} {x = x} {p = p} {s = s} is q e) = plain_even _ (keyword keywords.Namespace s ∷ x ∷ sign Equal ∷ a) ts
    (plain _ refl refl) e (plain_even _ (x ∷ sign Equal ∷ a) (keyword keywords.Namespace s ∷ x ∷ sign Equal ∷ a) (plain _ refl refl) refl
    (plain_even x (sign Equal ∷ a) (x ∷ sign Equal ∷ a) (plain_word x p is) refl (plain_even _ a (sign Equal ∷ a) (plain _ refl refl) refl (uri_even q))))
declaration_even {ts} (grammar.datatypes {a = a} {x = x} {p = p} is q e) = plain_even _ (x ∷ sign Equal ∷ a) ts (plain _ refl refl) e
    (plain_even x (sign Equal ∷ a) (x ∷ sign Equal ∷ a) (plain_word x p is) refl (plain_even _ a (sign Equal ∷ a) (plain _ refl refl) refl (literal_even q)))

pub declarations_even : {ts : List Lexeme} {ds : List Declaration} → AreDeclarations ts ds → Balanced ts
declarations_even (grammar.no_declarations e) = subst Balanced (sym e) refl
declarations_even {ts} (grammar.and_declaration {a = a} {b = b} p q e) = join_even a b ts e (declaration_even p) (declarations_even q)

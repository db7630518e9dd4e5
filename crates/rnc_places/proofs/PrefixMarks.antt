-- The prefix of each token of a body, and the names of datatypes among them, found token by token, are those of the
-- productions.
use Rattle.std.proofs.Common.{◌≡◌, ◌∙◌, ap, ap₂, sym, subst, refl, ℕ, suc, ◌-◌, List, [], ◌∷◌, ◌++◌, map, Bool, true, false, ◌||◌, Option, Some, None, option_map, append_assoc, arith}
use Rattle.std.specs.Prelude.{⊤}
use Rattle.std.proofs.Math.Bool.{or-false}
use Rattle.std.proofs.lemmas.List.{append-nil, map-append}
use Rattle.rng_model.specs.declared.method.Method.{Method}
use Rattle.rng_model.specs.simple.Tree.{Connector}
use Rattle.rnc_model.specs.declarations.DeclarationRules.{Declarable, namespace_prefix, prefixes_of_body, prefixes_of_class, prefixes_of_classes}
use Rattle.rnc_model.specs.declarations.DeclarationRules.{prefixes_of_component}
use Rattle.rnc_model.specs.declarations.DeclarationRules.{prefixes_of_components, prefixes_of_inherit, prefixes_of_pattern, prefixes_of_patterns}
use Rattle.rnc_model.specs.declarations.DeclarationRules.{prefixes_of_type}
use Rattle.rnc_model.specs.declarations.TokenUses.{in_basic, in_bare_basic, in_bare_component, in_bare_primary, in_body, in_braced, in_class, in_component}
use Rattle.rnc_model.specs.declarations.TokenUses.{in_components, in_inherit, in_more, in_more_classes, in_overrides, in_particle, in_pattern, in_primary}
use Rattle.rnc_model.specs.declarations.TokenUses.{Use, namespace_of, data_of, value_of, no_uses}
use Rattle.rnc_model.specs.declarations.FaultyTokens.{prefix_used_in, prefix_of_type, prefixes_in}
use Rattle.rnc_model.specs.declared.token.Keyword.TheVariants as keywords
use Rattle.rnc_model.specs.declared.token.Sign.{Sign}
use Rattle.rnc_model.specs.declared.token.Sign.TheVariants.{And, AndEqual, Bar, BarEqual, CloseBrace, CloseBracket, CloseParenthesis, Comma, Equal, Minus}
use Rattle.rnc_model.specs.declared.token.Sign.TheVariants.{OpenBrace, OpenBracket, OpenParenthesis, Plus, Question, Star, Tilde}
use Rattle.rnc_model.specs.grammar.NameClasses as name_classes
use Rattle.rnc_model.specs.grammar.Grammar as grammar
use Rattle.rnc_model.specs.grammar.Grammar.{AreComponents, AreMore, IsBareComponent, IsBarePrimary}
use Rattle.rnc_model.specs.grammar.NameClasses.{AreMoreClasses, AreParameters, IsAnnotationContent, IsBareBasic, IsBasic, IsClass, IsLiteral, MayBeAnnotation}
use Rattle.rnc_model.specs.grammar.NameClasses.{MayBeParameters, MayInherit, connector_of, is_bracket, method_of, type_of, word_of}
use Rattle.rnc_model.specs.grammar.Grammar.{IsBody, IsBraced, IsComponent, IsParticle, IsPattern, IsPrimary}
use Rattle.rnc_model.specs.grammar.Grammar.{MayOverride, Setting}
use Rattle.rnc_model.specs.grammar.Syntax as syntax
use Rattle.rnc_model.specs.grammar.Syntax.{written}
use Rattle.rnc_model.specs.tokens.Cut.{Lexeme, cname, identifier, keyword, ns_name, segment, sign}
use Rattle.rnc_places.specs.declared.prefixes.Part.{Part}
use Rattle.rnc_places.specs.declared.prefixes.Part.TheVariants.{Body, Class, Inherit, Prefix}
use Rattle.rnc_places.specs.plain.DatatypeNumbers.{begins_parameter, has_some, is_name_at, is_prefixed, kept_use, may_break, names, opens_parameters}
use Rattle.rnc_places.specs.plain.DatatypeNumbers.{uses_of_body, uses_of_component, uses_of_components, uses_of_pattern, uses_of_patterns}
use Rattle.rnc_places.specs.plain.FaultNumbers.{depth_after, marks, part_at, prefix_at}

-- the prefixes among marks, in order
abbrev pub present : List (Option Declarable) → List Declarable
present [] = []
present (None ∷ ms) = present ms
present (Some x ∷ ms) = x ∷ present ms

-- the datatypes among uses that may break the clause, in order
abbrev pub kept : List (Option Use) → List Use
kept [] = []
kept (None ∷ us) = kept us
kept (Some u ∷ us) = kept_use u ++ kept us

abbrev pub is_counted : Option Use → Bool
is_counted None = false
is_counted (Some u) = may_break u

present_both : (ms ns : List (Option Declarable)) → present (ms ++ ns) ≡ present ms ++ present ns
present_both [] ns = refl
present_both (None ∷ ms) ns = present_both ms ns
present_both (Some x ∷ ms) ns = ap (λ (r : List Declarable). x ∷ r) (present_both ms ns)

kept_both : (us vs : List (Option Use)) → kept (us ++ vs) ≡ kept us ++ kept vs
kept_both [] vs = refl
kept_both (None ∷ us) vs = kept_both us vs
kept_both (Some u ∷ us) vs = ap (λ (r : List Use). kept_use u ++ r) (kept_both us vs) ∙ sym (append_assoc (kept_use u) (kept us) (kept vs))

-- What may follow tokens: if they may end in the name of a datatype, no parameters.
abbrev Fits : Bool → List Lexeme → Type 0
Fits true rest = opens_parameters rest ≡ false
Fits false rest = ⊤

-- Tokens have these uses, with these prefixes and datatypes among them. They are read from one depth and part to another,
-- if they may be followed by the rest.
pub record Marked (k : Bool) (d : ℕ) (a : Part) (e : ℕ) (b : Part) (ts : List Lexeme) (us : List (Option Use)) (xs : List Declarable) (ws : List Use)
    : Type 0 where
  pub reads : (rest : List Lexeme) → marks d a (ts ++ rest) ≡ prefixes_in us ++ marks e b rest
  pub finds : (rest : List Lexeme) → Fits k rest → names d a (ts ++ rest) ≡ map is_counted us ++ names e b rest
  pub are : present (prefixes_in us) ≡ xs
  pub keeps : kept us ≡ ws

-- the same, outside annotations
abbrev Marks : Bool → Part → Part → List Lexeme → List (Option Use) → List Declarable → List Use → Type 0
Marks k a b ts us xs ws = Marked k 0 a 0 b ts us xs ws

-- tokens without a use
abbrev Plain : Part → Part → List Lexeme → Type 0
Plain a b ts = Marks false a b ts (no_uses ts) [] []

nothing : {k : Bool} (d : ℕ) (a : Part) → Marked k d a d a [] [] [] []
nothing d a = record { reads = λ rest. refl; finds = λ rest fits. refl; are = refl; keeps = refl }

module _ {d : ℕ} {a : Part} {e : ℕ} {b : Part} {ts : List Lexeme} {us : List (Option Use)} {xs : List Declarable} {ws : List Use} where
  joined_where : {j k : Bool} {f : ℕ} {c : Part} {more : List Lexeme} {vs : List (Option Use)} {ys : List Declarable} {zs : List Use}
      → ((rest : List Lexeme) → Fits k rest → Fits j (more ++ rest)) → Marked j d a e b ts us xs ws → Marked k e b f c more vs ys zs
      → Marked k d a f c (ts ++ more) (us ++ vs) (xs ++ ys) (ws ++ zs)
  joined_where {f = f} {c = c} {more = more} {vs = vs} fit p q = record {
    reads = λ rest. ap (marks d a) (append_assoc ts more rest) ∙ p.reads (more ++ rest)
        ∙ ap (λ (r : List (Option Declarable)). prefixes_in us ++ r) (q.reads rest) ∙ sym (append_assoc (prefixes_in us) (prefixes_in vs) (marks f c rest))
        ∙ ap (λ (r : List (Option Declarable)). r ++ marks f c rest) (sym (map-append prefix_used_in us vs));
    finds = λ rest fits. ap (names d a) (append_assoc ts more rest) ∙ p.finds (more ++ rest) (fit rest fits)
        ∙ ap (λ (r : List Bool). map is_counted us ++ r) (q.finds rest fits) ∙ sym (append_assoc (map is_counted us) (map is_counted vs) (names f c rest))
        ∙ ap (λ (r : List Bool). r ++ names f c rest) (sym (map-append is_counted us vs));
    are = ap present (map-append prefix_used_in us vs) ∙ present_both (prefixes_in us) (prefixes_in vs) ∙ ap₂ (λ (x y : List Declarable). x ++ y) p.are q.are;
    keeps = kept_both us vs ∙ ap₂ (λ (x y : List Use). x ++ y) p.keeps q.keeps;
  }

  joined : {k : Bool} {f : ℕ} {c : Part} {more : List Lexeme} {vs : List (Option Use)} {ys : List Declarable} {zs : List Use} → Marked false d a e b ts us xs ws
      → Marked k e b f c more vs ys zs → Marked k d a f c (ts ++ more) (us ++ vs) (xs ++ ys) (ws ++ zs)
  joined {k = k} p q = joined_where {j = false} {k = k} (λ rest fits. tt) p q

  bound : Marked false d a e b ts us xs ws → Marked true d a e b ts us xs ws
  bound p = record { reads = p.reads; finds = λ rest fits. p.finds rest tt; are = p.are; keeps = p.keeps }

  is : {k : Bool} {more : List Lexeme} → more ≡ ts → Marked k d a e b ts us xs ws → Marked k d a e b more us xs ws
  is {k = k} same p = subst (λ (ts : List Lexeme). Marked k d a e b ts us xs ws) (sym same) p

  with_uses : {k : Bool} {vs : List (Option Use)} → us ≡ vs → Marked k d a e b ts us xs ws → Marked k d a e b ts vs xs ws
  with_uses {k = k} same p = subst (λ (us : List (Option Use)). Marked k d a e b ts us xs ws) same p

  with_both : {k : Bool} {ys : List Declarable} {zs : List Use} → xs ≡ ys → ws ≡ zs → Marked k d a e b ts us xs ws → Marked k d a e b ts us ys zs
  with_both same equal p = record { reads = p.reads; finds = p.finds; are = p.are ∙ same; keeps = p.keeps ∙ equal }

-- one token without a use, and the tokens after it
module _ {k : Bool} {e : ℕ} {b : Part} {ts : List Lexeme} {us : List (Option Use)} {xs : List Declarable} {ws : List Use} where
  token : (d : ℕ) (a : Part) (x : Lexeme) → prefix_at d a x ≡ None → ((rest : List Lexeme) → is_name_at d a x (ts ++ rest) ≡ false)
      → Marked k (depth_after d x) (part_at d a x) e b ts us xs ws → Marked k d a e b (x ∷ ts) (None ∷ us) xs ws
  token d a x none free p = record {
    reads = λ rest. ap₂ (λ (m : Option Declarable) (r : List (Option Declarable)). m ∷ r) none (p.reads rest);
    finds = λ rest fits. ap₂ (λ (m : Bool) (r : List Bool). m ∷ r) (free rest) (p.finds rest fits);
    are = p.are;
    keeps = p.keeps;
  }

-- tokens, and one without a use after them
module _ {k : Bool} {d : ℕ} {a : Part} {b : Part} {ts : List Lexeme} {us : List (Option Use)} {xs : List Declarable} {ws : List Use} where
  closed : (e : ℕ) (x : Lexeme) → prefix_at e b x ≡ None → ((rest : List Lexeme) → is_name_at e b x rest ≡ false)
      → ((rest : List Lexeme) → opens_parameters (x ∷ rest) ≡ false) → Marked true d a e b ts us xs ws
      → Marked k d a (depth_after e x) (part_at e b x) (ts ++ x ∷ []) (us ++ None ∷ []) xs ws
  closed e x none free fit p = with_both (append-nil xs) (append-nil ws)
      (joined_where {j = true} {k = k} (λ rest fits. fit rest) p (token e b x none free (nothing {k = k} _ _)))

no_uses_both : (ts us : List Lexeme) → no_uses ts ++ no_uses us ≡ no_uses (ts ++ us)
no_uses_both ts us = sym (map-append (λ (x : Lexeme). None) ts us)

-- two lists of tokens without a use
both_plain : {a b c : Part} {ts us : List Lexeme} → Plain a b ts → Plain b c us → Plain a c (ts ++ us)
both_plain {ts = ts} {us = us} p q = with_uses (no_uses_both ts us) (joined p q)

-- ---- annotations

stays : (d : ℕ) (x : Lexeme) → is_bracket x ≡ false → depth_after d x ≡ d
stays d (sign OpenBracket) e = absurd cc
stays d (sign CloseBracket) e = absurd cc
stays d (sign _) e = refl
stays d (keyword k s) e = refl
stays d (identifier w) e = refl
stays d (cname p l) e = refl
stays d (ns_name p) e = refl
stays d (segment w) e = refl

-- inside an annotation
abbrev Inner : ℕ → Part → List Lexeme → Type 0
Inner d a ts = Marked false (suc d) a (suc d) a ts (no_uses ts) [] []

inner_joined : (d : ℕ) (a : Part) (ts us : List Lexeme) → Inner (suc d) a ts → Inner d a us → Inner d a (sign OpenBracket ∷ (ts ++ sign CloseBracket ∷ us))
inner_joined d a ts us p q =
    let one_less : suc d ≡ suc (suc d) - 1 = omega arith in
    token (suc d) a (sign OpenBracket) refl (λ rest. refl) (with_uses (no_uses_both ts (sign CloseBracket ∷ us)) (joined p (token (suc (suc d)) a (sign CloseBracket) refl (λ rest. refl)
    (subst (λ (k : ℕ). Marked false k a (suc d) a us (no_uses us) [] []) one_less q))))

content_marked : {ts : List Lexeme} → IsAnnotationContent ts → (d : ℕ) (a : Part) → Inner d a ts
content_marked (name_classes.no_content e) d a = subst (Inner d a) (sym e) (nothing (suc d) a)
content_marked (name_classes.and_token {a = ts} {x = x} other p e) d a = subst (Inner d a) (sym e)
    (token (suc d) a x refl (λ rest. refl)
    (subst (λ (k : ℕ). Marked false k a (suc d) a ts (no_uses ts) [] []) (sym (stays (suc d) x other)) (content_marked p d a)))
content_marked (name_classes.and_annotation {a = ts} {b = us} p q e) d a = subst (Inner d a) (sym e)
    (inner_joined d a ts us (content_marked p (suc d) a) (content_marked q d a))

opened : (a : Part) (b : Part) → part_at 0 a (sign OpenBracket) ≡ b → prefix_at 0 a (sign OpenBracket) ≡ None
    → ((rest : List Lexeme) → is_name_at 0 a (sign OpenBracket) rest ≡ false) → part_at 1 b (sign CloseBracket) ≡ a → (ts : List Lexeme) → Inner 0 b ts
    → Plain a a (sign OpenBracket ∷ (ts ++ sign CloseBracket ∷ []))
opened a b to none free back ts p = with_uses (ap (λ (r : List (Option Use)). None ∷ r) (no_uses_both ts (sign CloseBracket ∷ [])))
    (token 0 a (sign OpenBracket) none (λ rest. free ((ts ++ sign CloseBracket ∷ []) ++ rest))
    (subst (λ (c : Part). Marked false 1 c 0 a (ts ++ sign CloseBracket ∷ []) (no_uses ts ++ None ∷ []) [] []) (sym to)
    (subst (λ (c : Part). Marked false 1 b 0 c (ts ++ sign CloseBracket ∷ []) (no_uses ts ++ None ∷ []) [] []) back
    (closed 1 (sign CloseBracket) refl (λ rest. refl) (λ rest. refl) (bound p)))))

body_note : {n : List Lexeme} → MayBeAnnotation n → Plain Body Body n
body_note (name_classes.without_annotation e) = subst (Plain Body Body) (sym e) (nothing 0 Body)
body_note (name_classes.with_annotation {a = ts} p e) = subst (Plain Body Body) (sym e) (opened Body Body refl refl (λ rest. refl) refl ts (content_marked p 0 Body))

class_note : {n : List Lexeme} → MayBeAnnotation n → Plain Class Class n
class_note (name_classes.without_annotation e) = subst (Plain Class Class) (sym e) (nothing 0 Class)
class_note (name_classes.with_annotation {a = ts} p e) = subst (Plain Class Class) (sym e) (opened Class Class refl refl (λ rest. refl) refl ts (content_marked p 0 Class))

-- ---- literals, parameters, and what mentions pass on

-- a segment is read from here to the body
abbrev Takes : Part → Type 0
Takes a = (w : List ℕ) → (prefix_at 0 a (segment w) ≡ None) × (part_at 0 a (segment w) ≡ Body) × ((rest : List Lexeme) → is_name_at 0 a (segment w) rest ≡ false)

segment_marked : (a : Part) → Takes a → (w : List ℕ) (ts : List Lexeme) → Plain Body Body ts → Plain a Body (segment w ∷ ts)
segment_marked a takes w ts p = token 0 a (segment w) (takes w).0 (λ rest. (takes w).2 (ts ++ rest))
    (subst (λ (b : Part). Marked false 0 b 0 Body ts (no_uses ts) [] []) (sym (takes w).1) p)

literal_marked : {ts : List Lexeme} {v : List ℕ} → IsLiteral ts v → (a : Part) → Takes a → Plain a Body ts
literal_marked (name_classes.one_segment {w = w} e) a takes = subst (Plain a Body) (sym e) (segment_marked a takes w [] (nothing 0 Body))
literal_marked (name_classes.more_segments {a = ts} {w = w} p e f) a takes = subst (Plain a Body) (sym e)
    (segment_marked a takes w (sign Tilde ∷ ts) (token 0 Body (sign Tilde) refl (λ rest. refl) (literal_marked p Body (λ w. (refl, refl, λ rest. refl)))))

literal_in_body : {ts : List Lexeme} {v : List ℕ} → IsLiteral ts v → Plain Body Body ts
literal_in_body p = literal_marked p Body (λ w. (refl, refl, λ rest. refl))

-- a word, `=` and a literal
equal_marked : (x : Lexeme) (w : List ℕ) {ts : List Lexeme} {v : List ℕ} → word_of x ≡ Some w → IsLiteral ts v → Plain Body Body (x ∷ sign Equal ∷ ts)
equal_marked (identifier u) w e p = token 0 Body (identifier u) refl (λ rest. refl) (token 0 Body (sign Equal) refl (λ rest. refl) (literal_in_body p))
equal_marked (keyword keywords.Element s) w e p = token 0 Body (keyword keywords.Element s) refl (λ rest. refl) (token 0 Class (sign Equal) refl (λ rest. refl) (literal_in_body p))
equal_marked (keyword keywords.Attribute s) w e p = token 0 Body (keyword keywords.Attribute s) refl (λ rest. refl) (token 0 Class (sign Equal) refl (λ rest. refl) (literal_in_body p))
equal_marked (keyword keywords.Inherit s) w e p =
    token 0 Body (keyword keywords.Inherit s) refl (λ rest. refl) (token 0 Inherit (sign Equal) refl (λ rest. refl) (literal_marked p Prefix (λ w. (refl, refl, λ rest. refl))))
equal_marked (keyword k s) w e p = token 0 Body (keyword k s) refl (λ rest. refl) (token 0 Body (sign Equal) refl (λ rest. refl) (literal_in_body p))
equal_marked _ w e p = absurd cc

parameters_marked : {ts : List Lexeme} {ps : List (List ℕ × List ℕ)} → AreParameters ts ps → Plain Body Body ts
parameters_marked (name_classes.no_parameters e) = subst (Plain Body Body) (sym e) (nothing 0 Body)
parameters_marked (name_classes.and_parameter {n = n} {a = ts} {b = us} {w = w} x may word p ps e) = subst (Plain Body Body) (sym e)
    (both_plain (body_note may) (both_plain {ts = x ∷ sign Equal ∷ ts} (equal_marked x w word p) (parameters_marked ps)))

may_parameters_marked : {ts : List Lexeme} {ps : List (List ℕ × List ℕ)} → MayBeParameters ts ps → Plain Body Body ts
may_parameters_marked (name_classes.without_parameters e) = subst (Plain Body Body) (sym e) (nothing 0 Body)
may_parameters_marked (name_classes.with_parameters {a = ts} p e) = subst (Plain Body Body) (sym e)
    (token 0 Body (sign OpenBrace) refl (λ rest. refl) (with_uses (no_uses_both ts (sign CloseBrace ∷ [])) (closed 0 (sign CloseBrace) refl (λ rest. refl) (λ rest. refl) (bound (parameters_marked p)))))

word_prefix : (x : Lexeme) (w : List ℕ) → word_of x ≡ Some w
    → Marks false Prefix Body (x ∷ []) (Some (namespace_of w) ∷ []) (namespace_prefix w ∷ []) []
word_prefix (identifier v) w e = record {
  reads = λ rest. ap (λ (o : Option (List ℕ)). option_map namespace_prefix o ∷ marks 0 Body rest) e;
  finds = λ rest fits. refl;
  are = refl;
  keeps = refl;
}
word_prefix (keyword k s) w e = record {
  reads = λ rest. ap (λ (o : Option (List ℕ)). option_map namespace_prefix o ∷ marks 0 Body rest) e;
  finds = λ rest fits. refl;
  are = refl;
  keeps = refl;
}
word_prefix _ w e = absurd cc

inherit_marked : {ts : List Lexeme} {p : Option (List ℕ)} → (may : MayInherit ts p) → Marks false Body Body ts (in_inherit may) (prefixes_of_inherit p) []
inherit_marked (name_classes.without_inherit e) = is e (nothing 0 Body)
inherit_marked (name_classes.with_inherit {w = w} {x = x} {s = s} word e) =
    is e (token 0 Body (keyword keywords.Inherit s) refl (λ rest. refl) (token 0 Inherit (sign Equal) refl (λ rest. refl) (word_prefix x w word)))

-- ---- name classes

word_in_class : (x : Lexeme) (w : List ℕ) → word_of x ≡ Some w → Marks false Class Class (x ∷ []) (None ∷ []) [] []
word_in_class (identifier v) w e = token 0 Class (identifier v) refl (λ rest. refl) (nothing 0 Class)
word_in_class (keyword k s) w e = token 0 Class (keyword k s) refl (λ rest. refl) (nothing 0 Class)
word_in_class _ w e = absurd cc

-- a token with a namespace prefix, and the tokens after it
ns_front : (p : List ℕ) {ts : List Lexeme} {us : List (Option Use)} {xs : List Declarable} → Marks false Class Class ts us xs []
    → Marks false Class Class (ns_name p ∷ ts) (Some (namespace_of p) ∷ us) (namespace_prefix p ∷ xs) []
ns_front p q = record {
  reads = λ rest. ap (λ (r : List (Option Declarable)). Some (namespace_prefix p) ∷ r) (q.reads rest);
  finds = λ rest fits. ap (λ (r : List Bool). false ∷ r) (q.finds rest fits);
  are = ap (λ (r : List Declarable). namespace_prefix p ∷ r) q.are;
  keeps = q.keeps;
}

mutual
  class_marked : {ts : List Lexeme} {c : syntax.NameClassAt written} → (p : IsClass ts c) → Marks false Class Class ts (in_class p) (prefixes_of_class c) []
  class_marked (name_classes.basic_class p) = basic_marked p
  class_marked (name_classes.choice_class {c = c} {cs = cs} p q e f) =
      with_both (sym (ap prefixes_of_class f)) refl (is e (joined (basic_marked p) (more_classes_marked q)))
  class_marked (name_classes.any_except may p e) =
      is e (joined (class_note may) (token 0 Class (sign Star) refl (λ rest. refl) (token 0 Class (sign Minus) refl (λ rest. refl) (basic_marked p))))
  class_marked (name_classes.ns_except {p = w} may p e) = is e (joined (class_note may) (ns_front w (token 0 Class (sign Minus) refl (λ rest. refl) (basic_marked p))))

  more_classes_marked : {ts : List Lexeme} {cs : List (syntax.NameClassAt written)} → (p : AreMoreClasses ts cs)
      → Marks false Class Class ts (in_more_classes p) (prefixes_of_classes (syntax.classes_of cs)) []
  more_classes_marked (name_classes.last_class {c = c} p e) =
      with_both (sym (append-nil (prefixes_of_class c))) refl (is e (token 0 Class (sign Bar) refl (λ rest. refl) (basic_marked p)))
  more_classes_marked (name_classes.more_classes p q e) = is e (token 0 Class (sign Bar) refl (λ rest. refl) (joined (basic_marked p) (more_classes_marked q)))

  basic_marked : {ts : List Lexeme} {c : syntax.NameClassAt written} → (p : IsBasic ts c) → Marks false Class Class ts (in_basic p) (prefixes_of_class c) []
  basic_marked (name_classes.annotated_basic may p e) = is e (joined (class_note may) (bare_basic_marked p))

  bare_basic_marked : {ts : List Lexeme} {c : syntax.NameClassAt written} → (p : IsBareBasic ts c) → Marks false Class Class ts (in_bare_basic p) (prefixes_of_class c) []
  bare_basic_marked (name_classes.word_class {x = x} {w = w} word e) = is e (word_in_class x w word)
  bare_basic_marked (name_classes.cname_class {p = p} {l = l} e) = is e (record { reads = λ rest. refl; finds = λ rest fits. refl; are = refl; keeps = refl })
  bare_basic_marked (name_classes.ns_class {p = p} e) = is e (ns_front p (nothing 0 Class))
  bare_basic_marked (name_classes.any_class e) = is e (token 0 Class (sign Star) refl (λ rest. refl) (nothing 0 Class))
  bare_basic_marked (name_classes.class_in_parens p e) =
      is e (token 0 Class (sign OpenParenthesis) refl (λ rest. refl) (closed 0 (sign CloseParenthesis) refl (λ rest. refl) (λ rest. refl) (bound (class_marked p))))

-- ---- patterns and components

-- the tokens of parameters in braces begin with one exactly if there is one
parameters_begin : {ts : List Lexeme} {ps : List (List ℕ × List ℕ)} → AreParameters ts ps → (rest : List Lexeme)
    → begins_parameter (ts ++ sign CloseBrace ∷ rest) ≡ has_some ps
parameters_begin (name_classes.no_parameters e) rest = rw e refl
parameters_begin (name_classes.and_parameter {n = n} {a = ts} {b = us} x may word p ps e) rest = rw e (begin may x word ts us)
  where
    begin : {n : List Lexeme} {w : List ℕ} → MayBeAnnotation n → (x : Lexeme) → word_of x ≡ Some w → (ts us : List Lexeme)
        → begins_parameter ((n ++ x ∷ sign Equal ∷ (ts ++ us)) ++ sign CloseBrace ∷ rest) ≡ true
    begin (name_classes.with_annotation p f) x word ts us = rw f refl
    begin (name_classes.without_annotation f) (identifier v) word ts us = rw f refl
    begin (name_classes.without_annotation f) (keyword k s) word ts us = rw f refl
    begin (name_classes.without_annotation f) _ word ts us = absurd cc

parameters_open : {ts : List Lexeme} {ps : List (List ℕ × List ℕ)} → MayBeParameters ts ps → (rest : List Lexeme) → opens_parameters rest ≡ false
    → opens_parameters (ts ++ rest) ≡ has_some ps
parameters_open (name_classes.without_parameters e) rest none = rw e none
parameters_open (name_classes.with_parameters {a = ts} p e) rest none =
    rw e (ap begins_parameter (append_assoc ts (sign CloseBrace ∷ []) rest) ∙ parameters_begin p rest)

literal_opens : {ts : List Lexeme} {v : List ℕ} → IsLiteral ts v → (rest : List Lexeme) → opens_parameters (ts ++ rest) ≡ false
literal_opens (name_classes.one_segment e) rest = rw e refl
literal_opens (name_classes.more_segments p e f) rest = rw e refl

-- the name of a datatype, and the tokens after it
module _ {k : Bool} (make : syntax.DatatypeName written → Use) (prefix : (n : syntax.DatatypeName written) → prefix_used_in (Some (make n)) ≡ prefix_of_type n)
    {ts : List Lexeme} {us : List (Option Use)} {xs : List Declarable} {ws : List Use}
    (counts : (n : syntax.DatatypeName written) (rest : List Lexeme) → Fits k rest → (is_prefixed n || opens_parameters (ts ++ rest)) ≡ may_break (make n))
    (q : Marks k Body Body ts us xs ws) where
  type_front : (n : syntax.DatatypeName written) (x : Lexeme) → prefix_at 0 Body x ≡ prefix_of_type n
      → ((rest : List Lexeme) → is_name_at 0 Body x rest ≡ (is_prefixed n || opens_parameters rest)) → depth_after 0 x ≡ 0 → part_at 0 Body x ≡ Body
      → ((ms : List (Option Declarable)) → present (prefix_of_type n ∷ ms) ≡ prefixes_of_type n ++ present ms)
      → Marks k Body Body (x ∷ ts) (Some (make n) ∷ us) (prefixes_of_type n ++ xs) (kept_use (make n) ++ ws)
  type_front n x at found depth part there = record {
    reads = λ rest. ap₂ (λ (m : Option Declarable) (r : List (Option Declarable)). m ∷ r) (at ∙ sym (prefix n))
        (ap₂ (λ (d : ℕ) (a : Part). marks d a (ts ++ rest)) depth part ∙ q.reads rest);
    finds = λ rest fits. ap₂ (λ (m : Bool) (r : List Bool). m ∷ r) (found (ts ++ rest) ∙ counts n rest fits)
        (ap₂ (λ (d : ℕ) (a : Part). names d a (ts ++ rest)) depth part ∙ q.finds rest fits);
    are = ap (λ (m : Option Declarable). present (m ∷ prefixes_in us)) (prefix n) ∙ there (prefixes_in us)
        ∙ ap (λ (r : List Declarable). prefixes_of_type n ++ r) q.are;
    keeps = ap (λ (r : List Use). kept_use (make n) ++ r) q.keeps;
  }

  typed : (x : Lexeme) (n : syntax.DatatypeName written) → type_of x ≡ Some n
      → Marks k Body Body (x ∷ ts) (Some (make n) ∷ us) (prefixes_of_type n ++ xs) (kept_use (make n) ++ ws)
  typed (cname p l) n e =
      let same : syntax.prefixed_type p l ≡ n = cc in
      subst (λ (n : syntax.DatatypeName written). Marks k Body Body (cname p l ∷ ts) (Some (make n) ∷ us) (prefixes_of_type n ++ xs) (kept_use (make n) ++ ws))
      same (type_front (syntax.prefixed_type p l) (cname p l) refl (λ rest. refl) refl refl (λ ms. refl))
  typed (keyword keywords.String s) n e =
      let same : syntax.string_type ≡ n = cc in
      subst (λ (n : syntax.DatatypeName written). Marks k Body Body (keyword keywords.String s ∷ ts) (Some (make n) ∷ us) (prefixes_of_type n ++ xs)
      (kept_use (make n) ++ ws))
      same (type_front syntax.string_type (keyword keywords.String s) refl (λ rest. refl) refl refl (λ ms. refl))
  typed (keyword keywords.Token s) n e =
      let same : syntax.token_type ≡ n = cc in
      subst (λ (n : syntax.DatatypeName written). Marks k Body Body (keyword keywords.Token s ∷ ts) (Some (make n) ∷ us) (prefixes_of_type n ++ xs)
      (kept_use (make n) ++ ws))
      same (type_front syntax.token_type (keyword keywords.Token s) refl (λ rest. refl) refl refl (λ ms. refl))
  typed _ n e = absurd cc

-- a method, and the tokens after it
method_front : (x : Lexeme) (m : Method) {ts : List Lexeme} {us : List (Option Use)} {xs : List Declarable} {ws : List Use} → method_of x ≡ Some m
    → Marks true Body Body ts us xs ws → Marks true Body Body (x ∷ ts) (None ∷ us) xs ws
method_front (sign Equal) m e q = token 0 Body (sign Equal) refl (λ rest. refl) q
method_front (sign BarEqual) m e q = token 0 Body (sign BarEqual) refl (λ rest. refl) q
method_front (sign AndEqual) m e q = token 0 Body (sign AndEqual) refl (λ rest. refl) q
method_front _ m e q = absurd cc

-- a connector, and the tokens after it
connector_front : (s : Sign) (k : Connector) {ts : List Lexeme} {us : List (Option Use)} {xs : List Declarable} {ws : List Use} → connector_of s ≡ Some k
    → Marks true Body Body ts us xs ws → Marks true Body Body (sign s ∷ ts) (None ∷ us) xs ws
connector_front Comma k e q = token 0 Body (sign Comma) refl (λ rest. refl) q
connector_front And k e q = token 0 Body (sign And) refl (λ rest. refl) q
connector_front Bar k e q = token 0 Body (sign Bar) refl (λ rest. refl) q
connector_front _ k e q = absurd cc

-- ---- what begins with no parameters

connector_begins : (s : Sign) (k : Connector) → connector_of s ≡ Some k → (ts : List Lexeme) → opens_parameters (sign s ∷ ts) ≡ false
connector_begins Comma k e ts = refl
connector_begins And k e ts = refl
connector_begins Bar k e ts = refl
connector_begins _ k e ts = absurd cc

more_begin : {s : Sign} {ts : List Lexeme} {us : List (syntax.PatternAt written)} (k : Connector) → connector_of s ≡ Some k → AreMore s ts us
    → (rest : List Lexeme) → opens_parameters (ts ++ rest) ≡ false
more_begin {s} k joins (grammar.last_particle {a = ts} p e) rest = rw e (connector_begins s k joins (ts ++ rest))
more_begin {s} k joins (grammar.more_particles {a = ts} {b = us} p q e) rest = rw e (connector_begins s k joins ((ts ++ us) ++ rest))

bare_component_begins : {w : Setting} {ts : List Lexeme} {c : syntax.ComponentAt written} → IsBareComponent w ts c → (rest : List Lexeme)
    → opens_parameters (ts ++ rest) ≡ false
bare_component_begins (grammar.start method p e) rest = rw e refl
bare_component_begins (grammar.define method p e) rest = rw e refl
bare_component_begins (grammar.div p e f) rest = rw e refl
bare_component_begins (grammar.include content p may q e f) rest = rw e refl

component_begins : {w : Setting} {ts : List Lexeme} {c : syntax.ComponentAt written} → IsComponent w ts c → (rest : List Lexeme)
    → opens_parameters (ts ++ rest) ≡ false
component_begins (grammar.annotated_component (name_classes.without_annotation f) p e) rest = rw (e, f) (bare_component_begins p rest)
component_begins (grammar.annotated_component (name_classes.with_annotation q f) p e) rest = rw (e, f) refl

components_begin : {w : Setting} {ts : List Lexeme} {cs : List (syntax.ComponentAt written)} → AreComponents w ts cs → (rest : List Lexeme)
    → opens_parameters rest ≡ false → opens_parameters (ts ++ rest) ≡ false
components_begin (grammar.no_components e) rest none = rw e none
components_begin (grammar.and_component {a = ts} {b = us} p q e) rest none =
    rw e (ap opens_parameters (append_assoc ts us rest) ∙ component_begins p (us ++ rest))

mutual
  pattern_marked : {ts : List Lexeme} {t : syntax.PatternAt written} → (p : IsPattern ts t) → Marks true Body Body ts (in_pattern p) (prefixes_of_pattern t) (uses_of_pattern t)
  pattern_marked (grammar.one_particle p) = particle_marked p
  pattern_marked (grammar.particles {k = k} joins p q e f) =
      with_both (sym (ap prefixes_of_pattern f)) (sym (ap uses_of_pattern f))
      (is e (joined_where {j = true} {k = true} (λ rest fits. more_begin k joins q rest) (particle_marked p) (more_marked k joins q)))
  pattern_marked (grammar.data_except {a = ts} {b = us} {d = d} {ps = qs} x may type ps p e) =
      is e (joined (body_note may) (typed {k = true} (λ n. data_of n qs) (λ n. refl)
      (λ n rest fits. ap (λ (b : Bool). is_prefixed n || b)
      (ap opens_parameters (append_assoc ts (sign Minus ∷ us) rest) ∙ parameters_open ps (sign Minus ∷ (us ++ rest)) refl))
      (joined (may_parameters_marked ps) (token 0 Body (sign Minus) refl (λ rest. refl) (primary_marked p))) x d type))

  more_marked : {s : Sign} {ts : List Lexeme} {us : List (syntax.PatternAt written)} (k : Connector) → connector_of s ≡ Some k → (p : AreMore s ts us)
      → Marks true Body Body ts (in_more p) (prefixes_of_patterns (syntax.patterns_of us)) (uses_of_patterns (syntax.patterns_of us))
  more_marked {s} k joins (grammar.last_particle {t = t} p e) =
      with_both (sym (append-nil (prefixes_of_pattern t))) (sym (append-nil (uses_of_pattern t))) (is e (connector_front s k joins (particle_marked p)))
  more_marked {s} k joins (grammar.more_particles p q e) = is e (connector_front s k joins
      (joined_where {j = true} {k = true} (λ rest fits. more_begin k joins q rest) (particle_marked p) (more_marked k joins q)))

  particle_marked : {ts : List Lexeme} {t : syntax.PatternAt written} → (p : IsParticle ts t) → Marks true Body Body ts (in_particle p) (prefixes_of_pattern t) (uses_of_pattern t)
  particle_marked (grammar.once p) = primary_marked p
  particle_marked (grammar.optional p e) = is e (closed 0 (sign Question) refl (λ rest. refl) (λ rest. refl) (primary_marked p))
  particle_marked (grammar.zero_or_more p e) = is e (closed 0 (sign Star) refl (λ rest. refl) (λ rest. refl) (primary_marked p))
  particle_marked (grammar.one_or_more p e) = is e (closed 0 (sign Plus) refl (λ rest. refl) (λ rest. refl) (primary_marked p))

  primary_marked : {ts : List Lexeme} {t : syntax.PatternAt written} → (p : IsPrimary ts t) → Marks true Body Body ts (in_primary p) (prefixes_of_pattern t) (uses_of_pattern t)
  primary_marked (grammar.annotated_primary may p e) = is e (joined (body_note may) (bare_primary_marked p))

  bare_primary_marked : {ts : List Lexeme} {t : syntax.PatternAt written} → (p : IsBarePrimary ts t)
      → Marks true Body Body ts (in_bare_primary p) (prefixes_of_pattern t) (uses_of_pattern t)
  bare_primary_marked (grammar.element {s = s} c p e) = is e (token 0 Body (keyword keywords.Element s) refl (λ rest. refl) (joined (class_marked c) (class_braced p)))
  bare_primary_marked (grammar.attribute {s = s} c p e) = is e (token 0 Body (keyword keywords.Attribute s) refl (λ rest. refl) (joined (class_marked c) (class_braced p)))
  bare_primary_marked (grammar.list {s = s} p e) = is e (token 0 Body (keyword keywords.List s) refl (λ rest. refl) (body_braced p))
  bare_primary_marked (grammar.mixed {s = s} p e) = is e (token 0 Body (keyword keywords.Mixed s) refl (λ rest. refl) (body_braced p))
  bare_primary_marked (grammar.ref {n = n} e) = is e (token 0 Body (identifier n) refl (λ rest. refl) (nothing 0 Body))
  bare_primary_marked (grammar.parent_ref {n = n} {s = s} e) =
      is e (token 0 Body (keyword keywords.Parent s) refl (λ rest. refl) (token 0 Body (identifier n) refl (λ rest. refl) (nothing 0 Body)))
  bare_primary_marked (grammar.empty {s = s} e) = is e (token 0 Body (keyword keywords.Empty s) refl (λ rest. refl) (nothing 0 Body))
  bare_primary_marked (grammar.text {s = s} e) = is e (token 0 Body (keyword keywords.Text s) refl (λ rest. refl) (nothing 0 Body))
  bare_primary_marked (grammar.not_allowed {s = s} e) = is e (token 0 Body (keyword keywords.NotAllowed s) refl (λ rest. refl) (nothing 0 Body))
  bare_primary_marked (grammar.untyped_value p) = bound (literal_in_body p)
  bare_primary_marked (grammar.value {x = x} {d = d} {v = v} type p e) =
      is e (with_both (append-nil (prefixes_of_type d)) (append-nil (kept_use (value_of d v)))
      (typed {k = true} (λ n. value_of n v) (λ n. refl)
      (λ n rest fits. ap (λ (b : Bool). is_prefixed n || b) (literal_opens p rest) ∙ or-false (is_prefixed n)) (bound (literal_in_body p)) x d type))
  bare_primary_marked (grammar.data_of {x = x} {d = d} {ps = qs} type p e) =
      is e (with_both (append-nil (prefixes_of_type d)) (append-nil (kept_use (data_of d qs)))
      (typed {k = true} (λ n. data_of n qs) (λ n. refl) (λ n rest fits. ap (λ (b : Bool). is_prefixed n || b) (parameters_open p rest fits))
      (bound (may_parameters_marked p)) x d type))
  bare_primary_marked (grammar.external {s = s} p may e f) =
      with_both (sym (ap prefixes_of_pattern f)) (sym (ap uses_of_pattern f))
      (is e (token 0 Body (keyword keywords.External s) refl (λ rest. refl) (bound (joined (literal_in_body p) (inherit_marked may)))))
  bare_primary_marked (grammar.grammar {s = s} p e f) =
      with_both (sym (ap prefixes_of_pattern f)) (sym (ap uses_of_pattern f))
      (is e (token 0 Body (keyword keywords.Grammar s) refl (λ rest. refl) (token 0 Body (sign OpenBrace) refl (λ rest. refl) (closed 0 (sign CloseBrace) refl (λ rest. refl) (λ rest. refl) (components_marked p)))))
  bare_primary_marked (grammar.in_parens p e) =
      is e (token 0 Body (sign OpenParenthesis) refl (λ rest. refl) (closed 0 (sign CloseParenthesis) refl (λ rest. refl) (λ rest. refl) (pattern_marked p)))

  class_braced : {ts : List Lexeme} {t : syntax.PatternAt written} → (p : IsBraced ts t) → Marks true Class Body ts (in_braced p) (prefixes_of_pattern t) (uses_of_pattern t)
  class_braced (grammar.in_braces p e) = is e (token 0 Class (sign OpenBrace) refl (λ rest. refl) (closed 0 (sign CloseBrace) refl (λ rest. refl) (λ rest. refl) (pattern_marked p)))

  body_braced : {ts : List Lexeme} {t : syntax.PatternAt written} → (p : IsBraced ts t) → Marks true Body Body ts (in_braced p) (prefixes_of_pattern t) (uses_of_pattern t)
  body_braced (grammar.in_braces p e) = is e (token 0 Body (sign OpenBrace) refl (λ rest. refl) (closed 0 (sign CloseBrace) refl (λ rest. refl) (λ rest. refl) (pattern_marked p)))

  components_marked : {w : Setting} {ts : List Lexeme} {cs : List (syntax.ComponentAt written)} → (p : AreComponents w ts cs)
      → Marks true Body Body ts (in_components p) (prefixes_of_components (syntax.components_of cs)) (uses_of_components (syntax.components_of cs))
  components_marked (grammar.no_components e) = is e (nothing 0 Body)
  components_marked (grammar.and_component p q e) = is e
      (joined_where {j = true} {k = true} (λ rest fits. components_begin q rest fits) (component_marked p) (components_marked q))

  component_marked : {w : Setting} {ts : List Lexeme} {c : syntax.ComponentAt written} → (p : IsComponent w ts c)
      → Marks true Body Body ts (in_component p) (prefixes_of_component c) (uses_of_component c)
  component_marked (grammar.annotated_component may p e) = is e (joined (body_note may) (bare_component_marked p))

  bare_component_marked : {w : Setting} {ts : List Lexeme} {c : syntax.ComponentAt written} → (p : IsBareComponent w ts c)
      → Marks true Body Body ts (in_bare_component p) (prefixes_of_component c) (uses_of_component c)
  bare_component_marked (grammar.start {x = x} {m = m} {s = s} method p e) =
      is e (token 0 Body (keyword keywords.Start s) refl (λ rest. refl) (method_front x m method (pattern_marked p)))
  bare_component_marked (grammar.define {x = x} {n = n} {m = m} method p e) =
      is e (token 0 Body (identifier n) refl (λ rest. refl) (method_front x m method (pattern_marked p)))
  bare_component_marked (grammar.div {s = s} p e f) =
      with_both (sym (ap prefixes_of_component f)) (sym (ap uses_of_component f))
      (is e (token 0 Body (keyword keywords.Div s) refl (λ rest. refl) (token 0 Body (sign OpenBrace) refl (λ rest. refl) (closed 0 (sign CloseBrace) refl (λ rest. refl) (λ rest. refl) (components_marked p)))))
  bare_component_marked (grammar.include {s = s} content p may q e f) =
      with_both (sym (ap prefixes_of_component f)) (sym (ap uses_of_component f))
      (is e (token 0 Body (keyword keywords.Include s) refl (λ rest. refl) (joined (literal_in_body p) (joined (inherit_marked may) (overrides_marked q)))))

  overrides_marked : {ts : List Lexeme} {cs : List (syntax.ComponentAt written)} → (p : MayOverride ts cs)
      → Marks true Body Body ts (in_overrides p) (prefixes_of_components (syntax.components_of cs)) (uses_of_components (syntax.components_of cs))
  overrides_marked (grammar.without_overrides e) = is e (nothing 0 Body)
  overrides_marked (grammar.with_overrides p e) = is e (token 0 Body (sign OpenBrace) refl (λ rest. refl) (closed 0 (sign CloseBrace) refl (λ rest. refl) (λ rest. refl) (components_marked p)))

body_marked : {ts : List Lexeme} {b : syntax.Body} → (p : IsBody ts b) → Marks true Body Body ts (in_body p) (prefixes_of_body b) (uses_of_body b)
body_marked (grammar.pattern_body p) = pattern_marked p
body_marked (grammar.grammar_body p e) = with_both (sym (ap prefixes_of_body e)) (sym (ap uses_of_body e)) (components_marked p)

-- the marks of a body
pub marks_of_body : {ts : List Lexeme} {b : syntax.Body} → (p : IsBody ts b) → marks 0 Body ts ≡ prefixes_in (in_body p)
marks_of_body {ts} p = ap (marks 0 Body) (sym (append-nil ts)) ∙ (body_marked p).reads [] ∙ append-nil (prefixes_in (in_body p))

-- the prefixes among them are those of the tree
pub present_in_body : {ts : List Lexeme} {b : syntax.Body} → (p : IsBody ts b) → present (prefixes_in (in_body p)) ≡ prefixes_of_body b
present_in_body p = (body_marked p).are

-- the names of datatypes in a body that may break the clause
pub names_of_body : {ts : List Lexeme} {b : syntax.Body} → (p : IsBody ts b) → names 0 Body ts ≡ map is_counted (in_body p)
names_of_body {ts} p = ap (names 0 Body) (sym (append-nil ts)) ∙ (body_marked p).finds [] refl ∙ append-nil (map is_counted (in_body p))

-- these datatypes are those of the tree
pub kept_in_body : {ts : List Lexeme} {b : syntax.Body} → (p : IsBody ts b) → kept (in_body p) ≡ uses_of_body b
kept_in_body p = (body_marked p).keeps

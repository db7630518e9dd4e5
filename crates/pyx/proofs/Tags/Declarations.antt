-- The declarations in the `A` lines of a tag: reading agrees with the definition.
use Rattle.std.proofs.Common.{◌≡◌, ℕ, Bool, true, false, cond, not, ◌||◌, List, [], ◌∷◌, ◌++◌, length, codes, Option, Some, None, refl, sym, ap, subst, ◌∙◌}
use Rattle.std.specs.Prelude.{◌==◌, ◌≢◌, is_some}
use Rattle.std.specs.List.{AllByRecursion}
use Rattle.std.specs.Str.{bytes_eq}
use Rattle.std.proofs.lemmas.Option.{none-some, same_Some}
use Rattle.rng_model.proofs.Texts.{bytes_same, bytes_itself, no_bytes}
use Rattle.rng_model.specs.documents.PyxLines.{QName}
use Rattle.rng_model.specs.documents.PyxNamespaces.{WrittenAttribute, NamespaceDeclaration, xmlns, xmlns_uri, Declares, default_namespace, prefix_declared}
use Rattle.rng_model.specs.names.Names.{xml_uri}
use Rattle.rng_model.specs.documents.PyxNamespaces.{DeclaresNothing, AreParted, nothing, declaration, other, IsForbidden, of_xmlns_uri, of_xmlns, of_nothing}
use Rattle.rng_model.specs.documents.PyxNamespaces.{xml_as_another, another_as_xml}
use Rattle.pyx.specs.plain.Declarations.{declared_prefix, declared_by, forbidden_prefix, forbidden_by}

-- ---- which lines are declarations

declares_by : (prefix : Option (List ℕ)) (local : List ℕ) (p : Option (List ℕ)) → declared_prefix prefix local ≡ Some p
    → Declares (record { prefix = prefix; local = local }) p
declares_by None local p e = go (bytes_eq local xmlns) refl e where
  go : (b : Bool) → bytes_eq local xmlns ≡ b → cond {A = Option (Option (List ℕ))} b (Some None) None ≡ Some p
      → Declares (record { prefix = None; local = local }) p
  go true q k = subst (λ (x : List ℕ). Declares (record { prefix = None; local = x }) p) (sym (bytes_same local xmlns q))
      (subst (λ (x : Option (List ℕ)). Declares (record { prefix = None; local = xmlns }) x) (same_Some None p k) default_namespace)
  go false q k = absurd (none-some p k)
declares_by (Some x) local p e = go (bytes_eq x xmlns) refl e where
  go : (b : Bool) → bytes_eq x xmlns ≡ b → cond {A = Option (Option (List ℕ))} b (Some (Some local)) None ≡ Some p
      → Declares (record { prefix = Some x; local = local }) p
  go true q k = subst (λ (y : List ℕ). Declares (record { prefix = Some y; local = local }) p) (sym (bytes_same x xmlns q))
      (subst (λ (y : Option (List ℕ)). Declares (record { prefix = Some xmlns; local = local }) y) (same_Some (Some local) p k) prefix_declared)
  go false q k = absurd (none-some p k)

pub declares_it : (name : QName) (p : Option (List ℕ)) → declared_by name ≡ Some p → Declares name p
declares_it name p e = declares_by name.prefix name.local p e

pub is_declared : {name : QName} {p : Option (List ℕ)} → Declares name p → declared_by name ≡ Some p
is_declared default_namespace = refl
is_declared (prefix_declared {p}) = refl

pub declares_nothing : (name : QName) → declared_by name ≡ None → DeclaresNothing name
declares_nothing name e = λ p d. none-some p (sym e ∙ is_declared d)

-- ---- declarations and others

abbrev pub prefix_of : Option (Option (List ℕ)) → Option (List ℕ)
prefix_of None = None
prefix_of (Some p) = p

abbrev pub declaration_of : WrittenAttribute → NamespaceDeclaration
declaration_of a = record { prefix = prefix_of (declared_by a.name); uri = a.content }

abbrev pub AreDeclared : List WrittenAttribute → Type 0
AreDeclared ds = AllByRecursion (λ a. is_some (declared_by a.name) ≡ true) ds

-- one more line
pub parted_declaration : {all others : List WrittenAttribute} {ds : List NamespaceDeclaration} → AreParted all ds others → (a : WrittenAttribute) (p : Option (List ℕ))
    → declared_by a.name ≡ Some p → AreParted (all ++ a ∷ []) (ds ++ record { prefix = p; uri = a.content } ∷ []) others
parted_declaration nothing a p e = declaration (declares_it a.name p e) nothing
parted_declaration (declaration d more) a p e = declaration d (parted_declaration more a p e)
parted_declaration (other d more) a p e = other d (parted_declaration more a p e)

pub parted_other : {all others : List WrittenAttribute} {ds : List NamespaceDeclaration} → AreParted all ds others → (a : WrittenAttribute)
    → declared_by a.name ≡ None → AreParted (all ++ a ∷ []) ds (others ++ a ∷ [])
parted_other nothing a e = other (declares_nothing a.name e) nothing
parted_other (declaration d more) a e = declaration d (parted_other more a e)
parted_other (other d more) a e = other d (parted_other more a e)

-- ---- declarations that are not allowed

abbrev xml_rule : List ℕ → List ℕ → Bool
xml_rule p uri = cond (bytes_eq p (codes "xml")) (not (bytes_eq uri xml_uri)) (bytes_eq uri xml_uri)

bytes_differ : (x y : List ℕ) → bytes_eq x y ≡ false → x ≢ y
bytes_differ x y e p = absurd (true_false (sym (bytes_itself y) ∙ subst (λ (z : List ℕ). bytes_eq z y ≡ false) p e)) where
  true_false : true ≡ false → ⊥
  true_false e = cc

none_xml : None ≡ Some (codes "xml") → ⊥
none_xml e = cc

prefix_not : (p q : List ℕ) → p ≢ q → Some p ≢ Some q
prefix_not p q n e = n (same_Some p q e)

forbidden_default : (uri : List ℕ) → (bytes_eq uri xmlns_uri || bytes_eq uri xml_uri) ≡ true → IsForbidden (record { prefix = None; uri = uri })
forbidden_default uri e = go (bytes_eq uri xmlns_uri) (bytes_eq uri xml_uri) refl refl e where
  go : (a b : Bool) → bytes_eq uri xmlns_uri ≡ a → bytes_eq uri xml_uri ≡ b → (a || b) ≡ true → IsForbidden (record { prefix = None; uri = uri })
  go true b p q k = of_xmlns_uri (bytes_same uri xmlns_uri p)
  go false true p q k = another_as_xml none_xml (bytes_same uri xml_uri q)
  go false false p q k = absurd cc

forbidden_xml : (p uri : List ℕ) → xml_rule p uri ≡ true → IsForbidden (record { prefix = Some p; uri = uri })
forbidden_xml p uri e = go (bytes_eq p (codes "xml")) (bytes_eq uri xml_uri) refl refl e where
  go : (a b : Bool) → bytes_eq p (codes "xml") ≡ a → bytes_eq uri xml_uri ≡ b → cond a (not b) b ≡ true → IsForbidden (record { prefix = Some p; uri = uri })
  go true true q r k = absurd cc
  go true false q r k = xml_as_another (ap Some (bytes_same p (codes "xml") q)) (bytes_differ uri xml_uri r)
  go false true q r k = another_as_xml (prefix_not p (codes "xml") (bytes_differ p (codes "xml") q)) (bytes_same uri xml_uri r)
  go false false q r k = absurd cc

forbidden_other : (p uri : List ℕ) → forbidden_prefix p uri ≡ true → IsForbidden (record { prefix = Some p; uri = uri })
forbidden_other p uri e = go (length uri == 0) (bytes_eq uri xmlns_uri) (bytes_eq p xmlns) (xml_rule p uri) refl refl refl refl e where
  go : (a b c d : Bool) → (length uri == 0) ≡ a → bytes_eq uri xmlns_uri ≡ b → bytes_eq p xmlns ≡ c → xml_rule p uri ≡ d → (a || b || c || d) ≡ true
      → IsForbidden (record { prefix = Some p; uri = uri })
  go true b c d q r s t k = of_nothing refl (no_bytes uri q)
  go false true c d q r s t k = of_xmlns_uri (bytes_same uri xmlns_uri r)
  go false false true d q r s t k = of_xmlns (ap Some (bytes_same p xmlns s))
  go false false false true q r s t k = forbidden_xml p uri t
  go false false false false q r s t k = absurd cc

pub forbidden_is : (p : Option (List ℕ)) (uri : List ℕ) → forbidden_by (Some p) uri ≡ true → IsForbidden (record { prefix = p; uri = uri })
forbidden_is None uri e = forbidden_default uri e
forbidden_is (Some p) uri e = forbidden_other p uri e

any_of : (a b c d : Bool) → Bool
any_of a b c d = a || b || c || d

second : (a c d : Bool) → (a || true || c || d) ≡ true
second true c d = refl
second false c d = refl

third : (a b d : Bool) → (a || b || true || d) ≡ true
third true b d = refl
third false true d = refl
third false false d = refl

fourth : (a b c : Bool) → (a || b || c || true) ≡ true
fourth true b c = refl
fourth false true c = refl
fourth false false true = refl
fourth false false false = refl

by_uri : (p : Option (List ℕ)) (uri : List ℕ) → uri ≡ xmlns_uri → forbidden_by (Some p) uri ≡ true
by_uri None uri e = rw (e, bytes_itself xmlns_uri) refl
by_uri (Some p) uri e = let k : bytes_eq uri xmlns_uri ≡ true = ap (λ (x : List ℕ). bytes_eq x xmlns_uri) e ∙ bytes_itself xmlns_uri in
    ap (λ (b : Bool). (length uri == 0) || b || bytes_eq p xmlns || xml_rule p uri) k ∙ second (length uri == 0) (bytes_eq p xmlns) (xml_rule p uri)

by_xmlns : (p : Option (List ℕ)) (uri : List ℕ) → p ≡ Some xmlns → forbidden_by (Some p) uri ≡ true
by_xmlns None uri e = absurd (none-some xmlns e)
by_xmlns (Some p) uri e = let k : bytes_eq p xmlns ≡ true = ap (λ (x : List ℕ). bytes_eq x xmlns) (same_Some p xmlns e) ∙ bytes_itself xmlns in
    ap (λ (b : Bool). (length uri == 0) || bytes_eq uri xmlns_uri || b || xml_rule p uri) k ∙ third (length uri == 0) (bytes_eq uri xmlns_uri) (xml_rule p uri)

by_nothing : (p : Option (List ℕ)) (q uri : List ℕ) → p ≡ Some q → uri ≡ [] → forbidden_by (Some p) uri ≡ true
by_nothing None q uri e f = absurd (none-some q e)
by_nothing (Some p) q uri e f = rw f refl

xml_same : (p uri : List ℕ) → p ≡ codes "xml" → uri ≢ xml_uri → xml_rule p uri ≡ true
xml_same p uri e n = go (bytes_eq uri xml_uri) refl where
  go : (b : Bool) → bytes_eq uri xml_uri ≡ b → xml_rule p uri ≡ true
  go true q = absurd (n (bytes_same uri xml_uri q))
  go false q = rw (e, bytes_itself (codes "xml"), q) refl

xml_other : (p uri : List ℕ) → p ≢ codes "xml" → uri ≡ xml_uri → xml_rule p uri ≡ true
xml_other p uri n e = go (bytes_eq p (codes "xml")) refl where
  go : (b : Bool) → bytes_eq p (codes "xml") ≡ b → xml_rule p uri ≡ true
  go true q = absurd (n (bytes_same p (codes "xml") q))
  go false q = rw (q, e, bytes_itself xml_uri) refl

by_rule : (p uri : List ℕ) → xml_rule p uri ≡ true → forbidden_by (Some (Some p)) uri ≡ true
by_rule p uri k = ap (λ (b : Bool). (length uri == 0) || bytes_eq uri xmlns_uri || bytes_eq p xmlns || b) k
    ∙ fourth (length uri == 0) (bytes_eq uri xmlns_uri) (bytes_eq p xmlns)

by_xml : (p : Option (List ℕ)) (uri : List ℕ) → p ≡ Some (codes "xml") → uri ≢ xml_uri → forbidden_by (Some p) uri ≡ true
by_xml None uri e n = absurd (none-some (codes "xml") e)
by_xml (Some p) uri e n = by_rule p uri (xml_same p uri (same_Some p (codes "xml") e) n)

by_other : (p : Option (List ℕ)) (uri : List ℕ) → p ≢ Some (codes "xml") → uri ≡ xml_uri → forbidden_by (Some p) uri ≡ true
by_other None uri n e = go (bytes_eq uri xmlns_uri) where
  go : (b : Bool) → (b || bytes_eq uri xml_uri) ≡ true
  go true = refl
  go false = rw (e, bytes_itself xml_uri) refl
by_other (Some p) uri n e = by_rule p uri (xml_other p uri (λ q. n (ap Some q)) e)

pub is_forbidden_by : {d : NamespaceDeclaration} → IsForbidden d → forbidden_by (Some d.prefix) d.uri ≡ true
is_forbidden_by (of_xmlns_uri {d} e) = by_uri d.prefix d.uri e
is_forbidden_by (of_xmlns {d} e) = by_xmlns d.prefix d.uri e
is_forbidden_by (of_nothing {d} {p} e f) = by_nothing d.prefix p d.uri e f
is_forbidden_by (xml_as_another {d} e n) = by_xml d.prefix d.uri e n
is_forbidden_by (another_as_xml {d} n e) = by_other d.prefix d.uri n e

-- The declarations and the names of a tag are unique, if no declaration is written twice.
use Rattle.std.proofs.Common.{◌≡◌, ℕ, List, [], ◌∷◌, map, Option, Some, None, refl, sym, ap, subst, ◌∙◌, ◌⊎◌, inl, inr}
use Rattle.std.specs.Prelude.{◌≢◌}
use Rattle.std.specs.List.{AllByRecursion}
use Rattle.std.proofs.lemmas.List.Elements.{recursion_from_All}
use Rattle.std.proofs.lemmas.Option.{same_Some}
use Rattle.rng_model.specs.matching.Document.{Attribute}
use Rattle.rng_model.specs.names.Lists.{Among, here, there, HasTwice, at_first, later}
use Rattle.rng_model.specs.names.Names.{Name, xml_uri}
use Rattle.rng_model.specs.documents.PyxLines.{QName}
use Rattle.rng_model.specs.documents.PyxNamespaces.{WrittenAttribute, NamespaceDeclaration, Declares, AreParted, nothing, declaration, other, NamespaceScope}
use Rattle.rng_model.specs.documents.PyxNamespaces.{IsDeclared}
use Rattle.rng_model.specs.documents.PyxNamespaces.{HasNamespace, declared_here, declared_outside, xml_beforehand, no_default, NamesElement, element_name}
use Rattle.rng_model.specs.documents.PyxNamespaces.{NamesAttribute}
use Rattle.rng_model.specs.documents.PyxNamespaces.{without_prefix, with_prefix, AreExpanded, none_left, expanded_and}
use Rattle.pyx.proofs.Tags.Declarations.{is_declared}

declared_same : {name : QName} {p q : Option (List ℕ)} → Declares name p → Declares name q → p ≡ q
declared_same {p = p} {q = q} d e = same_Some p q (sym (is_declared d) ∙ is_declared e)

-- ---- namespaces

-- the prefixes that a tag declares
abbrev pub prefixes_of : List NamespaceDeclaration → List (Option (List ℕ))
prefixes_of ds = map (λ d. d.prefix) ds

-- no tag declares a prefix twice
abbrev pub IsScopeOnce : NamespaceScope → Type 0
IsScopeOnce scope = AllByRecursion (λ ds. HasTwice (prefixes_of ds) → ⊥) scope

among_prefix : {d : NamespaceDeclaration} {ds : List NamespaceDeclaration} → Among d ds → Among d.prefix (prefixes_of ds)
among_prefix here = here
among_prefix (there m) = there (among_prefix m)

-- two declarations of the same prefix in a tag are equal
one_declared : {d e : NamespaceDeclaration} {ds : List NamespaceDeclaration} → (HasTwice (prefixes_of ds) → ⊥) → Among d ds → Among e ds → d.prefix ≡ e.prefix → d.uri ≡ e.uri
one_declared once here here p = refl
one_declared {e = e} once (here {xs}) (there m) p = absurd (once (at_first (subst (λ (x : Option (List ℕ)). Among x (prefixes_of xs)) (sym p)
    (among_prefix m))))
one_declared {d = d} once (there {y} {xs} m) here p = absurd (once (at_first (subst (λ (x : Option (List ℕ)). Among x (prefixes_of xs)) p (among_prefix m))))
one_declared once (there m) (there n) p = one_declared (λ t. once (later t)) m n p

not_here : {d : NamespaceDeclaration} {ds : List NamespaceDeclaration} {p : Option (List ℕ)} → Among d ds → d.prefix ≡ p → AllByRecursion (λ d. d.prefix ≢ p) ds → ⊥
not_here here e all = all.0 e
not_here (there m) e all = not_here m e all.1

abbrev FirstDeclares : Option (List ℕ) → List ℕ → NamespaceScope → Type 0
FirstDeclares p uri [] = ⊥
FirstDeclares p uri (ds ∷ outer) = IsDeclared p uri ds

abbrev OthersName : Option (List ℕ) → List ℕ → NamespaceScope → Type 0
OthersName p uri [] = ⊥
OthersName p uri (ds ∷ outer) = AllByRecursion (λ d. d.prefix ≢ p) ds × HasNamespace outer p uri

here_or_behind : {s : NamespaceScope} {p : Option (List ℕ)} {uri : List ℕ} → HasNamespace s p uri → (ds : List NamespaceDeclaration) (outer : NamespaceScope) → s ≡ ds ∷ outer
    → IsDeclared p uri ds ⊎ (AllByRecursion (λ d. d.prefix ≢ p) ds × HasNamespace outer p uri)
here_or_behind {p = p} {uri = uri} (declared_here d) ds outer e = inl (subst (FirstDeclares p uri) e d)
here_or_behind {p = p} {uri = uri} (declared_outside {ds = cs} n h) ds outer e = inr
    (subst (OthersName p uri) e (recursion_from_All (λ d. d.prefix ≢ p) cs n, h))
here_or_behind xml_beforehand ds outer e = absurd cc
here_or_behind no_default ds outer e = absurd cc

abbrev outermost : Option (List ℕ) → List ℕ
outermost None = []
outermost (Some p) = xml_uri

named_outside : {s : NamespaceScope} {p : Option (List ℕ)} {uri : List ℕ} → HasNamespace s p uri → s ≡ [] → uri ≡ outermost p
named_outside (declared_here d) e = absurd cc
named_outside (declared_outside d h) e = absurd cc
named_outside xml_beforehand e = refl
named_outside no_default e = refl

pub namespace_same : {scope : NamespaceScope} {p : Option (List ℕ)} {u v : List ℕ} → IsScopeOnce scope → HasNamespace scope p u → HasNamespace scope p v → u ≡ v
namespace_same {p = p} {u = u} {v = v} once (declared_here {ds} {outer} d) h = go (here_or_behind h ds outer refl) where
  go : IsDeclared p v ds ⊎ (AllByRecursion (λ d. d.prefix ≢ p) ds × HasNamespace outer p v) → u ≡ v
  go (inl e) = one_declared once.0 d e refl
  go (inr n) = absurd (not_here d refl n.0)
namespace_same {p = p} {u = u} {v = v} once (declared_outside {ds} {outer} n g) h = go (here_or_behind h ds outer refl) (namespace_same once.1 g) where
  go : IsDeclared p v ds ⊎ (AllByRecursion (λ d. d.prefix ≢ p) ds × HasNamespace outer p v) → (HasNamespace outer p v → u ≡ v) → u ≡ v
  go (inl e) more = absurd (not_here e refl (recursion_from_All (λ d. d.prefix ≢ p) ds n))
  go (inr k) more = more k.1
namespace_same once xml_beforehand h = sym (named_outside h refl)
namespace_same once no_default h = sym (named_outside h refl)

-- ---- parts and names

pub parted_same : {all os ps : List WrittenAttribute} {ds cs : List NamespaceDeclaration} → AreParted all ds os → AreParted all cs ps → (ds ≡ cs) × (os ≡ ps)
parted_same nothing nothing = (refl, refl)
parted_same (declaration {a} {p} {all} {others} {ds} d m) (declaration {p = q} {ds = cs} e n) = let k = parted_same m n in
    (rw (declared_same d e, k.0) refl, k.1)
parted_same (declaration {p = p} d m) (other n k) = absurd (n p d)
parted_same (other n m) (declaration {p = q} e k) = absurd (n q e)
parted_same (other {a} n m) (other e k) = let r = parted_same m k in (r.0, ap (λ x. a ∷ x) r.1)

abbrev in_space : List ℕ → List ℕ → Name
in_space local uri = record { ns = uri; local = local }

pub element_same : {scope : NamespaceScope} {name : QName} {q r : Name} → IsScopeOnce scope → NamesElement scope name q → NamesElement scope name r → q ≡ r
element_same once (element_name {name} h) (element_name k) = ap (in_space name.local) (namespace_same once h k)

attribute_same : {scope : NamespaceScope} {name other : QName} {q r : Name} → IsScopeOnce scope → NamesAttribute scope name q → NamesAttribute scope other r
    → name ≡ other → q ≡ r
attribute_same once (without_prefix {local}) (without_prefix {local = more}) e = ap (λ (n : QName). in_space n.local []) e
attribute_same once (without_prefix {local}) (with_prefix {p} {local = more} k) e = absurd (no_prefix p (ap (λ (n : QName). n.prefix) e)) where
  no_prefix : (p : List ℕ) → None ≡ Some p → ⊥
  no_prefix p e = cc
attribute_same once (with_prefix {p} {local} h) (without_prefix {local = more}) e = absurd (no_prefix p (ap (λ (n : QName). n.prefix) e)) where
  no_prefix : (p : List ℕ) → Some p ≡ None → ⊥
  no_prefix p e = cc
attribute_same {scope} once (with_prefix {p} {local} {uri} h) (with_prefix {p = o} {local = more} {uri = v} k) e =
    let same : p ≡ o = same_Some p o (ap (λ (n : QName). n.prefix) e) in
    let u : uri ≡ v = namespace_same once h (subst (λ (x : List ℕ). HasNamespace scope (Some x) v) (sym same) k) in
    ap (λ (n : QName). in_space n.local uri) e ∙ ap (in_space more) u

with_content : List ℕ → Name → Attribute
with_content content name = record { name = name; content = content }

pub expanded_same : {scope : NamespaceScope} {all : List WrittenAttribute} {xs ys : List Attribute} → IsScopeOnce scope → AreExpanded scope all xs
    → AreExpanded scope all ys → xs ≡ ys
unfolding with_content
expanded_same once none_left none_left = refl
expanded_same once (expanded_and {a} n m) (expanded_and k j) = rw (ap (with_content a.content) (attribute_same once n k refl), expanded_same once m j) refl

-- Names and namespaces inside tags: reading agrees with the definition.
use Rattle.std.proofs.Common.{◌≡◌, ℕ, Bool, true, false, cond, List, [], ◌∷◌, map, codes, Option, Some, None, refl, sym, ap, subst, ◌∙◌, ◌⊎◌, inl, inr}
use Rattle.std.specs.Prelude.{◌≢◌, is_some}
use Rattle.std.specs.List.{AllByRecursion}
use Rattle.std.specs.Str.{bytes_eq}
use Rattle.std.proofs.lemmas.List.Elements.{All-from_recursion}
use Rattle.std.proofs.lemmas.Option.{none-some, same_Some}
use Rattle.rng_model.proofs.Texts.{bytes_same, bytes_itself}
use Rattle.rng_model.specs.names.Lists.{Among, here, there}
use Rattle.rng_model.specs.names.Names.{Name, xml_uri}
use Rattle.rng_model.specs.documents.PyxLines.{QName}
use Rattle.rng_model.specs.documents.PyxNamespaces.{WrittenAttribute, NamespaceDeclaration, NamespaceScope, IsDeclared, HasNamespace, declared_here}
use Rattle.rng_model.specs.documents.PyxNamespaces.{declared_outside}
use Rattle.rng_model.specs.documents.PyxNamespaces.{xml_beforehand, no_default, NamesElement, element_name, NamesAttribute, without_prefix, with_prefix}
use Rattle.rng_model.specs.documents.PyxNamespaces.{HasNoNamespace}
use Rattle.pyx.specs.plain.TagReader as read
use Rattle.pyx.specs.plain.Declarations.{Declared, declared_by, same_prefix, declares, found_in, beforehand, or_else, namespace_of}
use Rattle.pyx.specs.plain.TagReader.{in_namespace, attribute_in}
use Rattle.pyx.specs.plain.TagReader.{attribute_name}
use Rattle.pyx.proofs.Lines.WrittenNames.{prefix_same, prefix_itself}
use Rattle.pyx.proofs.Tags.Declarations.{declaration_of, prefix_of, AreDeclared}

false_true : false ≡ true → ⊥
false_true e = cc

abbrev pub scope_in : Declared → NamespaceScope
scope_in scope = map (λ ds. map declaration_of ds) scope

abbrev pub AllDeclared : Declared → Type 0
AllDeclared scope = AllByRecursion AreDeclared scope

-- ---- in one tag

declares_is : (o : Option (Option (List ℕ))) (p : Option (List ℕ)) → declares o p ≡ true → o ≡ Some p
declares_is None p e = absurd (false_true e)
declares_is (Some q) p e = ap Some (prefix_same q p e)

declares_not : (o : Option (Option (List ℕ))) (p : Option (List ℕ)) → declares o p ≡ false → is_some o ≡ true → prefix_of o ≢ p
declares_not None p e s = absurd (false_true s)
declares_not (Some q) p e s = λ k. false_true (sym e ∙ ap (same_prefix q) (sym k) ∙ prefix_itself q)

-- the meaning of a search in the declarations of a tag
abbrev Lookup : Option (List ℕ) → List WrittenAttribute → Option (List ℕ) → Type 0
Lookup p ds None = AllByRecursion (λ d. d.prefix ≢ p) (map declaration_of ds)
Lookup p ds (Some uri) = IsDeclared p uri (map declaration_of ds)

later : (p : Option (List ℕ)) (a : WrittenAttribute) (more : List WrittenAttribute) (o : Option (List ℕ)) → prefix_of (declared_by a.name) ≢ p
    → Lookup p more o → Lookup p (a ∷ more) o
later p a more None n l = (n, l)
later p a more (Some uri) n l = there l

this_one : (p : Option (List ℕ)) (a : WrittenAttribute) (more : List WrittenAttribute) → declared_by a.name ≡ Some p
    → IsDeclared p a.content (map declaration_of (a ∷ more))
this_one p a more e = subst (λ (q : Option (List ℕ)). Among (record { prefix = q; uri = a.content }) (map declaration_of (a ∷ more))) (ap prefix_of e) here

found_tells : (p : Option (List ℕ)) (ds : List WrittenAttribute) → AreDeclared ds → Lookup p ds (found_in p ds)
unfolding found_in
found_tells p [] all = tt
found_tells p (a ∷ more) all = go (declares (declared_by a.name) p) refl (found_tells p more all.1) where
  go : (b : Bool) → declares (declared_by a.name) p ≡ b → Lookup p more (found_in p more) → Lookup p (a ∷ more) (cond b (Some a.content) (found_in p more))
  go true e l = this_one p a more (declares_is (declared_by a.name) p e)
  go false e l = later p a more (found_in p more) (declares_not (declared_by a.name) p e all.0) l

-- ---- in all open tags

abbrev Space : Declared → Option (List ℕ) → Option (List ℕ) → Type 0
Space scope p None = (uri : List ℕ) → HasNamespace (scope_in scope) p uri → ⊥
Space scope p (Some uri) = HasNamespace (scope_in scope) p uri

only_xml : {s : NamespaceScope} {p : Option (List ℕ)} {uri : List ℕ} → HasNamespace s p uri → s ≡ [] → (q : List ℕ) → p ≡ Some q → q ≡ codes "xml"
only_xml (declared_here d) e q f = absurd cc
only_xml (declared_outside d h) e q f = absurd cc
only_xml xml_beforehand e q f = same_Some q (codes "xml") (sym f)
only_xml no_default e q f = absurd (none-some q f)

here_or_outside : {s : NamespaceScope} {p : Option (List ℕ)} {uri : List ℕ} → HasNamespace s p uri → (ds : List NamespaceDeclaration) (outer : NamespaceScope) → s ≡ ds ∷ outer
    → IsDeclared p uri ds ⊎ HasNamespace outer p uri
here_or_outside {p = p} {uri = uri} (declared_here d) ds outer e = inl (subst (λ (x : NamespaceScope). IsFirst p uri x) e d) where
  IsFirst : Option (List ℕ) → List ℕ → NamespaceScope → Type 0
  IsFirst p uri [] = ⊥
  IsFirst p uri (ds ∷ outer) = IsDeclared p uri ds
here_or_outside {p = p} {uri = uri} (declared_outside d h) ds outer e = inr (subst (λ (x : NamespaceScope). IsOutside p uri x) e h) where
  IsOutside : Option (List ℕ) → List ℕ → NamespaceScope → Type 0
  IsOutside p uri [] = ⊥
  IsOutside p uri (ds ∷ outer) = HasNamespace outer p uri
here_or_outside xml_beforehand ds outer e = absurd cc
here_or_outside no_default ds outer e = absurd cc

not_among : (p : Option (List ℕ)) (uri : List ℕ) {d : NamespaceDeclaration} {ds : List NamespaceDeclaration} → Among d ds → d ≡ record { prefix = p; uri = uri }
    → AllByRecursion (λ d. d.prefix ≢ p) ds → ⊥
not_among p uri here e all = all.0 (ap (λ (d : NamespaceDeclaration). d.prefix) e)
not_among p uri (there a) e all = not_among p uri a e all.1

outermost : (p : Option (List ℕ)) → Space [] p (beforehand p)
outermost None = no_default
outermost (Some q) = go (bytes_eq q (codes "xml")) refl where
  go : (b : Bool) → bytes_eq q (codes "xml") ≡ b → Space [] (Some q) (cond b (Some xml_uri) None)
  go true e = subst (λ (x : List ℕ). HasNamespace [] (Some x) xml_uri) (sym (bytes_same q (codes "xml") e)) xml_beforehand
  go false e = λ uri h. false_true (sym e ∙ ap (λ (x : List ℕ). bytes_eq x (codes "xml")) (only_xml h refl q refl) ∙ bytes_itself (codes "xml"))

behind : (ds : List WrittenAttribute) (outer : Declared) (p : Option (List ℕ)) (o : Option (List ℕ)) → Lookup p ds None → Space outer p o
    → Space (ds ∷ outer) p o
behind ds outer p None l s = λ uri h. go uri (here_or_outside h (map declaration_of ds) (scope_in outer) refl) where
  go : (uri : List ℕ) → IsDeclared p uri (map declaration_of ds) ⊎ HasNamespace (scope_in outer) p uri → ⊥
  go uri (inl d) = not_among p uri d refl l
  go uri (inr h) = s uri h
behind ds outer p (Some uri) l s = declared_outside (All-from_recursion (λ d. d.prefix ≢ p) (map declaration_of ds) l) s

pub namespace_tells : (scope : Declared) (p : Option (List ℕ)) → AllDeclared scope → Space scope p (namespace_of scope p)
unfolding namespace_of
namespace_tells [] p all = outermost p
namespace_tells (ds ∷ outer) p all = go (found_in p ds) (found_tells p ds all.0) (namespace_tells outer p all.1) where
  go : (o : Option (List ℕ)) → Lookup p ds o → Space outer p (namespace_of outer p) → Space (ds ∷ outer) p (or_else o (namespace_of outer p))
  go (Some uri) l s = declared_here l
  go None l s = behind ds outer p (namespace_of outer p) l s

-- without a prefix there is always one
pub default_found : (scope : Declared) → is_some (namespace_of scope None) ≡ true
unfolding namespace_of
default_found [] = refl
default_found (ds ∷ outer) = go (found_in None ds) (default_found outer) where
  go : (o : Option (List ℕ)) → is_some (namespace_of outer None) ≡ true → is_some (or_else o (namespace_of outer None)) ≡ true
  go (Some uri) more = refl
  go None more = more

-- ---- names

-- the name has a prefix that is not declared
pub record UndeclaredPrefix (scope : Declared) (name : QName) : Type 0 where
  pub prefix : List ℕ
  pub is : name.prefix ≡ Some prefix
  pub undeclared : HasNoNamespace (scope_in scope) prefix

-- the result for the name of an element
abbrev pub NameTells : Declared → QName → Option Name → Type 0
NameTells scope name None = UndeclaredPrefix scope name
NameTells scope name (Some q) = NamesElement (scope_in scope) name q

pub element_tells : (scope : Declared) (name : QName) → AllDeclared scope → NameTells scope name (read.element_name scope name)
unfolding read.element_name
element_tells scope name all = go name.prefix (namespace_of scope name.prefix) refl refl (namespace_tells scope name.prefix all) where
  go : (p o : Option (List ℕ)) → name.prefix ≡ p → namespace_of scope name.prefix ≡ o → Space scope name.prefix o
      → NameTells scope name (in_namespace name.local o)
  go p (Some uri) e f s = element_name s
  go None None e f s = absurd (false_true (ap is_some (sym f) ∙ ap (λ (x : Option (List ℕ)). is_some (namespace_of scope x)) e ∙ default_found scope))
  go (Some p) None e f s = record { prefix = p; is = e; undeclared = subst (λ (x : Option (List ℕ)). Space scope x None) e s }

-- the result for the name of an attribute
abbrev pub AttributeTells : Declared → QName → Option Name → Type 0
AttributeTells scope name None = UndeclaredPrefix scope name
AttributeTells scope name (Some q) = NamesAttribute (scope_in scope) name q

pub attribute_tells : (scope : Declared) (name : QName) → AllDeclared scope → AttributeTells scope name (attribute_name scope name)
unfolding attribute_name
attribute_tells scope name all = by_prefix name.prefix name.local where
  by_prefix : (p : Option (List ℕ)) (local : List ℕ) → AttributeTells scope (record { prefix = p; local = local }) (attribute_in scope p local)
  by_prefix None local = without_prefix
  by_prefix (Some p) local = go (namespace_of scope (Some p)) (namespace_tells scope (Some p) all) where
    go : (o : Option (List ℕ)) → Space scope (Some p) o → AttributeTells scope (record { prefix = Some p; local = local }) (in_namespace local o)
    go None s = record { prefix = p; is = refl; undeclared = s }
    go (Some uri) s = with_prefix s

-- Declarations of namespaces in the tags of a document in PYX, and which names they expand (Namespaces in XML 1.0, sections 3 to 6).
use Rattle.std.specs.Prelude.{◌≡◌, ◌≢◌, ℕ, List, [], ◌∷◌, Option, Some, None, codes, All}
use Rattle.rng_model.specs.names.Lists.{Among}
use Rattle.rng_model.specs.names.Names.{xml_uri, Name}
use Rattle.rng_model.specs.matching.Document.{Attribute}
use Rattle.rng_model.specs.documents.PyxLines.{Said, QName, attribute}

-- ---- what a tag declares

-- an `A` line: its name as it is written, and the meaning of its value
pub record WrittenAttribute : Type 0 where
  pub name : QName
  pub content : List ℕ

pub data AreWritten : List Said → List WrittenAttribute → Type 0 where
  none_written : AreWritten [] []
  written_and : {name : QName} {content : List ℕ} {lines : List Said} {more : List WrittenAttribute} → AreWritten lines more
      → AreWritten (attribute name content ∷ lines) (record { name = name; content = content } ∷ more)

-- the namespace of a prefix, or the default one
pub record NamespaceDeclaration : Type 0 where
  pub prefix : Option (List ℕ)
  pub uri : List ℕ

abbrev pub xmlns : List ℕ
xmlns = codes "xmlns"

-- `xmlns` declares the default namespace, `xmlns:p` the namespace of the prefix p
pub data Declares : QName → Option (List ℕ) → Type 0 where
  default_namespace : Declares (record { prefix = None; local = xmlns }) None
  prefix_declared : {p : List ℕ} → Declares (record { prefix = Some xmlns; local = p }) (Some p)

-- the name declares nothing, so it is the name of an attribute
abbrev pub DeclaresNothing : QName → Type 0
DeclaresNothing name = (p : Option (List ℕ)) → ¬ (Declares name p)

-- which of the `A` lines of a tag are declarations and which are attributes, in order
pub data AreParted : List WrittenAttribute → List NamespaceDeclaration → List WrittenAttribute → Type 0 where
  nothing : AreParted [] [] []
  declaration : {a : WrittenAttribute} {p : Option (List ℕ)} {all others : List WrittenAttribute} {ds : List NamespaceDeclaration} → Declares a.name p
      → AreParted all ds others → AreParted (a ∷ all) (record { prefix = p; uri = a.content } ∷ ds) others
  other : {a : WrittenAttribute} {all others : List WrittenAttribute} {ds : List NamespaceDeclaration} → DeclaresNothing a.name
      → AreParted all ds others → AreParted (a ∷ all) ds (a ∷ others)

-- ---- the namespaces of names

-- the declarations of the open tags, those of the innermost first
abbrev pub NamespaceScope : Type 0
NamespaceScope = List (List NamespaceDeclaration)

abbrev pub xmlns_uri : List ℕ
xmlns_uri = codes "http://www.w3.org/2000/xmlns/"

-- the tag declares the prefix, or the default namespace, as this
abbrev pub IsDeclared : Option (List ℕ) → List ℕ → List NamespaceDeclaration → Type 0
IsDeclared p uri ds = Among (record { prefix = p; uri = uri }) ds

-- the tag does not declare it
abbrev pub DeclaresNone : Option (List ℕ) → List NamespaceDeclaration → Type 0
DeclaresNone p ds = All (λ d. d.prefix ≢ p) ds

-- The namespace of the prefix, or the default namespace: the one that the innermost tag that declares it declares. If
-- no tag declares it: `xml` has its own namespace, and there is no default namespace.
pub data HasNamespace : NamespaceScope → Option (List ℕ) → List ℕ → Type 0 where
  declared_here : {ds : List NamespaceDeclaration} {outer : NamespaceScope} {p : Option (List ℕ)} {uri : List ℕ} → IsDeclared p uri ds → HasNamespace (ds ∷ outer) p uri
  declared_outside : {ds : List NamespaceDeclaration} {outer : NamespaceScope} {p : Option (List ℕ)} {uri : List ℕ} → DeclaresNone p ds → HasNamespace outer p uri
      → HasNamespace (ds ∷ outer) p uri
  xml_beforehand : HasNamespace [] (Some (codes "xml")) xml_uri
  no_default : HasNamespace [] None []

-- the expanded name of an element: without a prefix it has the default namespace
pub data NamesElement (scope : NamespaceScope) : QName → Name → Type 0 where
  element_name : {name : QName} {uri : List ℕ} → HasNamespace scope name.prefix uri
      → NamesElement scope name (record { ns = uri; local = name.local })

-- the expanded name of an attribute: without a prefix it has no namespace
pub data NamesAttribute (scope : NamespaceScope) : QName → Name → Type 0 where
  without_prefix : {local : List ℕ} → NamesAttribute scope (record { prefix = None; local = local }) (record { ns = []; local = local })
  with_prefix : {p local uri : List ℕ} → HasNamespace scope (Some p) uri
      → NamesAttribute scope (record { prefix = Some p; local = local }) (record { ns = uri; local = local })

-- attributes with their expanded names
pub data AreExpanded (scope : NamespaceScope) : List WrittenAttribute → List Attribute → Type 0 where
  none_left : AreExpanded scope [] []
  expanded_and : {a : WrittenAttribute} {name : Name} {more : List WrittenAttribute} {attrs : List Attribute} → NamesAttribute scope a.name name
      → AreExpanded scope more attrs → AreExpanded scope (a ∷ more) (record { name = name; content = a.content } ∷ attrs)

-- ---- declarations that are not allowed, and prefixes that are not declared

-- the declaration is not allowed (Namespaces in XML 1.0, sections 3 and 5)
pub data IsForbidden : NamespaceDeclaration → Type 0 where
  -- a prefix, or the default, is declared as the namespace of declarations
  of_xmlns_uri : {d : NamespaceDeclaration} → d.uri ≡ xmlns_uri → IsForbidden d
  -- `xmlns` is declared
  of_xmlns : {d : NamespaceDeclaration} → d.prefix ≡ Some xmlns → IsForbidden d
  -- a prefix is declared as no namespace
  of_nothing : {d : NamespaceDeclaration} {p : List ℕ} → d.prefix ≡ Some p → d.uri ≡ [] → IsForbidden d
  -- `xml` is declared as another namespace, or another prefix or the default as the namespace of `xml`
  xml_as_another : {d : NamespaceDeclaration} → d.prefix ≡ Some (codes "xml") → d.uri ≢ xml_uri → IsForbidden d
  another_as_xml : {d : NamespaceDeclaration} → d.prefix ≢ Some (codes "xml") → d.uri ≡ xml_uri → IsForbidden d

-- the prefix has no namespace
abbrev pub HasNoNamespace : NamespaceScope → List ℕ → Type 0
HasNoNamespace scope p = (uri : List ℕ) → ¬ (HasNamespace scope (Some p) uri)

-- What a document says: its element, by the calls that tell it with expanded names (Namespaces in XML 1.0, sections 2.1 and 3
-- to 6; RELAX NG Specification, section 2). And the other answers on bytes: there are six with the two of WholeDocuments.
use Rattle.std.specs.Prelude.{ℕ, Bool, true, false, not, ◌==◌, List, [], ◌∷◌, map, All, ◌≡◌}
use Rattle.std.specs.List.{list_all}
use Rattle.std.specs.Str.{encode_utf8_all}
use Rattle.rng_model.specs.names.Names.{Name}
use Rattle.rng_model.specs.matching.Document.{Attribute, Item, Distinct}
use Rattle.rng_model.specs.documents.PyxLines.{QName, IsName}
use Rattle.rng_model.specs.documents.PyxNamespaces.{WrittenAttribute, AreParted, NamespaceDeclaration, IsForbidden, NamespaceScope, NamesElement, AreExpanded}
use Rattle.rng_model.specs.documents.PyxTrees.{Event, EventKind, a_start, a_string, an_end, Placed, item_of}
use Rattle.rng_model.specs.documents.Telling.{TellsDocument}
use Rattle.xml_model.specs.declarations.Declared.{Declared}
use Rattle.xml_model.specs.declarations.Literals.{unread_mark}
use Rattle.xml_model.specs.documents.Content.{XmlEvent, start, character, end}
use Rattle.xml_model.specs.documents.WholeDocuments.{IsXml, NamesOtherEncoding, IsVersion11}

-- the attributes of a tag, with their names in two parts
pub data HaveNames : List (List ℕ × List ℕ) → List WrittenAttribute → Type 0 where
  no_names : HaveNames [] []
  name_and : {name value : List ℕ} {q : QName} {attributes : List (List ℕ × List ℕ)} {written : List WrittenAttribute} → IsName (encode_utf8_all name) q
      → HaveNames attributes written → HaveNames ((name, value) ∷ attributes) (record { name = q; content = encode_utf8_all value } ∷ written)

-- a tag in a scope: its declarations, its expanded name, and its attributes with theirs (Namespaces, sections 3 to 6)
pub record IsNamedTag (outer : NamespaceScope) (name : List ℕ) (attributes : List (List ℕ × List ℕ)) (ds : List NamespaceDeclaration) (q : Name)
    (expanded : List Attribute) : Type 0 where
  pub written : List WrittenAttribute
  pub have_names : HaveNames attributes written
  pub others : List WrittenAttribute
  pub are_parted : AreParted written ds others
  pub allowed : All (λ d. ¬ (IsForbidden d)) ds
  pub qname : QName
  pub is_name : IsName (encode_utf8_all name) qname
  pub is_named : NamesElement (ds ∷ outer) qname q
  pub are_expanded : AreExpanded (ds ∷ outer) others expanded
  pub distinct : Distinct expanded

-- events by expanded names: the scope is that of the open elements
pub data AreNamed : NamespaceScope → List XmlEvent → List EventKind → Type 0 where
  no_events : {scope : NamespaceScope} → AreNamed scope [] []
  start_and : {scope : NamespaceScope} {name : List ℕ} {attributes : List (List ℕ × List ℕ)} {ds : List NamespaceDeclaration} {q : Name}
      {expanded : List Attribute} {events : List XmlEvent} {calls : List EventKind} → IsNamedTag scope name attributes ds q expanded
      → AreNamed (ds ∷ scope) events calls → AreNamed scope (start name attributes ∷ events) (a_start q expanded ∷ calls)
  character_and : {scope : NamespaceScope} {c : ℕ} {events : List XmlEvent} {calls : List EventKind} → AreNamed scope events calls
      → AreNamed scope (character c ∷ events) (a_string (encode_utf8_all (c ∷ [])) ∷ calls)
  end_and : {scope : NamespaceScope} {ds : List NamespaceDeclaration} {events : List XmlEvent} {calls : List EventKind} → AreNamed scope events calls
      → AreNamed (ds ∷ scope) (end ∷ events) (an_end ∷ calls)

-- ---- what a document says

-- nothing of it is missing
abbrev pub is_known : XmlEvent → Bool
is_known (start name attributes) = list_all (λ a. list_all (λ c. not (c == unread_mark)) a.1) attributes
is_known (character c) = not (c == unread_mark)
is_known end = true

-- a call at no place
abbrev pub placeless : EventKind → Event
placeless kind = record { line = 0; kind = kind }

-- The bytes are a document with this element. Unread: it has an external subset or parameter entities that this
-- processor does not read, so a processor that reads them may give it other attributes.
pub record IsDocument (bytes : List ℕ) (element : Item) (unread : Bool) : Type 0 where
  pub declared : Declared
  pub events : List XmlEvent
  pub is_xml : IsXml bytes declared events
  pub known : list_all is_known events ≡ true
  pub calls : List EventKind
  pub are_named : AreNamed [] events calls
  pub tree : Placed
  pub told : TellsDocument (map placeless calls) tree
  pub element_is : item_of tree ≡ element
  pub unread_is : declared.unread ≡ unread

-- The bytes are well-formed XML, as far as this processor reads. What it does not read has a part of the document itself.
abbrev pub IsIncomplete : List ℕ → Type 0
IsIncomplete bytes = (declared : Declared) × (events : List XmlEvent) × IsXml bytes declared events × (list_all is_known events ≡ false)

-- They are well-formed XML, as far as this processor reads, nothing is missing, and they break Namespaces in XML. Unread:
-- a processor that reads more may find declarations of namespaces among the defaults (Namespaces, section 5).
abbrev pub BreaksNamespaces : List ℕ → Bool → Type 0
BreaksNamespaces bytes unread = (declared : Declared) × (events : List XmlEvent) × IsXml bytes declared events × (list_all is_known events ≡ true)
    × ((calls : List EventKind) → ¬ (AreNamed [] events calls)) × (declared.unread ≡ unread)

-- They are not well-formed XML 1.0 in UTF-8 or in UTF-16 with a mark, with names as Namespaces in XML has them (sections 4, 5
-- and 7), and do not name another encoding or XML 1.1.
abbrev pub IsMalformed : List ℕ → Type 0
IsMalformed bytes = ((declared : Declared) (events : List XmlEvent) → ¬ (IsXml bytes declared events)) × ¬ (NamesOtherEncoding bytes) × ¬ (IsVersion11 bytes)

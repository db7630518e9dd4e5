-- Elements and their content (XML 1.0 Fifth Edition, sections 2.4, 2.7, 3, 3.1, 4.3.2 and 4.4; names by Namespaces in XML 1.0,
-- section 5): which events a text tells, with what is declared. The text of an entity of the document's own is content by
-- itself, and is there in place of its reference. A derivation is finite, so no entity is in itself (WFC No Recursion).
use Rattle.std.specs.Prelude.{ℕ, ◌==◌, true, false, List, [], ◌∷◌, ◌++◌, map, ◌≡◌, ◌≢◌, ◌⊎◌, codes}
use Rattle.std.specs.List.{starts_with}
use Rattle.rng_model.specs.names.Lists.{HasTwice}
use Rattle.xml_model.specs.characters.Productions.{◌∣◌, Space, MaySpace, QualifiedName, NCName, IsQuoted, Eq, Comment, Instruction, IsCharacterReference}
use Rattle.xml_model.specs.characters.Productions.{entity_reference, lacks}
use Rattle.xml_model.specs.declarations.Declared.{Declared, internal, external, IsEntity, IsUnknown, all_attributes}
use Rattle.xml_model.specs.declarations.Literals.{unread_mark, IsAttributeValue}

-- what a text tells, one after the other; names are as they are written
pub data XmlEvent : Type 0 where
  start : List ℕ → List (List ℕ × List ℕ) → XmlEvent
  character : ℕ → XmlEvent
  end : XmlEvent

module _ (d : Declared) where
  -- (S Attribute)* S? (productions 40, 41 and 44): the names and values that are specified
  pub data AreSpecified : List ℕ → List (List ℕ × List ℕ) → Type 0 where
    none_specified : {text : List ℕ} → MaySpace text → AreSpecified text []
    specified_and : {all q text value more : List ℕ} {specified : List (List ℕ × List ℕ)} (s n e : List ℕ) → Space s → QualifiedName n → Eq e → IsQuoted q text
        → IsAttributeValue d text value → AreSpecified more specified → all ≡ s ++ (n ++ (e ++ (q ++ more))) → AreSpecified all ((n, value) ∷ specified)

  -- STag and EmptyElemTag (productions 40 and 44), without the signs at both ends: the name, and all attributes (WFC Unique
  -- Att Spec)
  pub record IsStartTag (all name : List ℕ) (attributes : List (List ℕ × List ℕ)) : Type 0 where
    pub text : List ℕ
    pub specified : List (List ℕ × List ℕ)
    pub is_name : QualifiedName name
    pub are_specified : AreSpecified text specified
    pub once : ¬ (HasTwice (map (λ a. a.0) specified))
    pub all_are : attributes ≡ all_attributes d name specified
    pub parts : all ≡ name ++ text

  mutual
    -- element and ETag (productions 39 and 42; WFC Element Type Match)
    pub data IsXmlElement : List ℕ → List XmlEvent → Type 0 where
      empty : {all tag name : List ℕ} {attributes : List (List ℕ × List ℕ)} → IsStartTag tag name attributes → all ≡ codes "<" ++ (tag ++ codes "/>")
          → IsXmlElement all (start name attributes ∷ end ∷ [])
      filled : {all tag name content : List ℕ} {attributes : List (List ℕ × List ℕ)} {inner events : List XmlEvent} (s : List ℕ) → IsStartTag tag name attributes
          → IsXmlContent content inner → MaySpace s → all ≡ codes "<" ++ (tag ++ (codes ">" ++ (content ++ (codes "</" ++ (name ++ (s ++ codes ">"))))))
          → events ≡ start name attributes ∷ (inner ++ end ∷ []) → IsXmlElement all events

    -- content (production 43), item by item; CharData (production 14) is one character after the other. A `%` is such a
    -- character (section 4.4.1).
    pub data IsXmlContent : List ℕ → List XmlEvent → Type 0 where
      no_content : IsXmlContent [] []
      character_and : {c : ℕ} {text : List ℕ} {events : List XmlEvent} → c ≢ 0x3C → c ≢ 0x26 → starts_with (◌==◌) (c ∷ text) (codes "]]>") ≡ false
          → IsXmlContent text events → IsXmlContent (c ∷ text) (character c ∷ events)
      element_and : {all part text : List ℕ} {inner events result : List XmlEvent} → IsXmlElement part inner → IsXmlContent text events → all ≡ part ++ text
          → result ≡ inner ++ events → IsXmlContent all result
      -- CDSect (productions 18 to 21)
      section_and : {all text : List ℕ} {events result : List XmlEvent} (body : List ℕ) → lacks (codes "]]>") body ≡ true → IsXmlContent text events
          → all ≡ codes "<![CDATA[" ++ (body ++ (codes "]]>" ++ text)) → result ≡ map character body ++ events → IsXmlContent all result
      nothing_and : {all text : List ℕ} {events : List XmlEvent} (part : List ℕ) → (Instruction ∣ Comment) part → IsXmlContent text events
          → all ≡ part ++ text → IsXmlContent all events
      reference_and : {all ref text : List ℕ} {c : ℕ} {events : List XmlEvent} → IsCharacterReference ref c → IsXmlContent text events → all ≡ ref ++ text
          → IsXmlContent all (character c ∷ events)
      -- a reference to an entity (production 68): it is of the document's own, or it is not read, as it is external or not
      -- known (WFC Entity Declared); an unparsed entity is none of these (WFC Parsed Entity)
      entity_and : {all name replacement text : List ℕ} {inner events result : List XmlEvent} → NCName name → IsEntity d name (internal replacement)
          → IsXmlContent replacement inner → IsXmlContent text events → all ≡ entity_reference name ++ text → result ≡ inner ++ events → IsXmlContent all result
      unread_and : {all name text : List ℕ} {events : List XmlEvent} → NCName name → IsEntity d name external ⊎ IsUnknown d name → IsXmlContent text events
          → all ≡ entity_reference name ++ text → IsXmlContent all (character unread_mark ∷ events)

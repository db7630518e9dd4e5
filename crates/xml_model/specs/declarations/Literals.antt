-- The text that an entity is declared with, and the values of attributes (XML 1.0 Fifth Edition, sections 2.3, 3.1, 3.3.3, 4.4 and 4.5).
use Rattle.std.specs.Prelude.{ℕ, true, if◌then◌else◌, List, [], ◌∷◌, ◌++◌, ◌≡◌, ◌≢◌, codes}
use Rattle.rng_model.specs.datatypes.Texts.{is_blank_byte}
use Rattle.xml_model.specs.characters.Productions.{IsCharacterReference, NCName, entity_reference, lacks}
use Rattle.xml_model.specs.declarations.Declared.{Declared, internal, IsEntity, IsUnknown}

-- a number that is no character (section 2.2): in a text, the place of an entity that this processor does not read
abbrev pub unread_mark : ℕ
unread_mark = 0

-- What is between the quotes of an EntityValue (production 9), and the replacement text (section 4.5). Characters that are
-- referred to are included, references to general entities are bypassed (section 4.4.7). There is no reference to a parameter
-- entity (WFC PEs in Internal Subset).
pub data IsEntityText : List ℕ → List ℕ → Type 0 where
  no_more : IsEntityText [] []
  itself_and : {c : ℕ} {text replacement : List ℕ} → c ≢ 0x25 → c ≢ 0x26 → IsEntityText text replacement → IsEntityText (c ∷ text) (c ∷ replacement)
  character_reference_and : {all ref text replacement : List ℕ} {c : ℕ} → IsCharacterReference ref c → IsEntityText text replacement → all ≡ ref ++ text
      → IsEntityText all (c ∷ replacement)
  entity_reference_and : {all text replacement result : List ℕ} (name : List ℕ) → NCName name → IsEntityText text replacement
      → all ≡ entity_reference name ++ text → result ≡ entity_reference name ++ replacement → IsEntityText all result

module _ (d : Declared) where
  -- What is between the quotes of an AttValue (production 10), or the replacement text of an entity in one, and its value
  -- before its type counts (section 3.3.3). No `<` is in either, and an external entity in neither (WFC No < in Attribute
  -- Values, No External Entity References). An entity is well formed only if it matches content, so it has no `]]>`
  -- (sections 2.1 and 4.3.2). The derivation is finite (WFC No Recursion).
  pub data IsAttributeValue : List ℕ → List ℕ → Type 0 where
    no_text : IsAttributeValue [] []
    character_and : {c : ℕ} {text value : List ℕ} → c ≢ 0x3C → c ≢ 0x26 → IsAttributeValue text value
        → IsAttributeValue (c ∷ text) ((if is_blank_byte c then 0x20 else c) ∷ value)
    reference_and : {all ref text value : List ℕ} {c : ℕ} → IsCharacterReference ref c → IsAttributeValue text value → all ≡ ref ++ text
        → IsAttributeValue all (c ∷ value)
    entity_and : {all name replacement inner text value result : List ℕ} → NCName name → IsEntity d name (internal replacement)
        → lacks (codes "]]>") replacement ≡ true → IsAttributeValue replacement inner → IsAttributeValue text value → all ≡ entity_reference name ++ text
        → result ≡ inner ++ value → IsAttributeValue all result
    unknown_and : {all name text value : List ℕ} → NCName name → IsUnknown d name → IsAttributeValue text value → all ≡ entity_reference name ++ text
        → IsAttributeValue all (unread_mark ∷ value)

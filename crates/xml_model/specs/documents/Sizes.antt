-- How much of entities a document reads, and how deep it nests: by these numbers a reader that has limits says which
-- documents it refuses. The sizes of what a document declares and says are those of its bytes and of its entities. The
-- predefined entities are not counted.
use Rattle.std.specs.Prelude.{ℕ, ◌+◌, max, suc, Bool, if◌then◌else◌, List, length, Option}
use Rattle.xml_model.specs.declarations.Declared.{Declared, DeclaredAttribute, is_predefined}
use Rattle.xml_model.specs.declarations.Literals as values
use Rattle.xml_model.specs.declarations.Literals.{IsAttributeValue}
use Rattle.xml_model.specs.declarations.MarkupDeclarations as declarations
use Rattle.xml_model.specs.declarations.MarkupDeclarations.{IsDefaultDeclaration, AreAttributeDefinitions}
use Rattle.xml_model.specs.declarations.DocumentTypes as subset
use Rattle.xml_model.specs.declarations.DocumentTypes.{IsSubset, MayHaveDocumentType}
use Rattle.xml_model.specs.documents.Content as content
use Rattle.xml_model.specs.documents.Content.{XmlEvent, AreSpecified, IsStartTag, IsXmlElement, IsXmlContent}
use Rattle.xml_model.specs.documents.WholeDocuments.{IsXml}

-- ---- how many characters of entities are read, each as often as it is referred to

abbrev pub entity_size : List ℕ → List ℕ → ℕ
entity_size name replacement = if is_predefined name then 0 else length replacement

abbrev pub value_reads : {d : Declared} {text value : List ℕ} → IsAttributeValue d text value → ℕ
value_reads values.no_text = 0
value_reads (values.character_and p q more) = value_reads more
value_reads (values.reference_and r more parts) = value_reads more
value_reads (values.entity_and {name = name} {replacement = replacement} n e l inner more parts result) =
    entity_size name replacement + (value_reads inner + value_reads more)
value_reads (values.unknown_and n u more parts) = value_reads more

abbrev pub specified_reads : {d : Declared} {text : List ℕ} {specified : List (List ℕ × List ℕ)} → AreSpecified d text specified → ℕ
specified_reads (content.none_specified s) = 0
specified_reads (content.specified_and s n e p q r quoted value more parts) = value_reads value + specified_reads more

abbrev mutual
  pub element_reads : {d : Declared} {text : List ℕ} {events : List XmlEvent} → IsXmlElement d text events → ℕ
  element_reads (content.empty tag parts) = specified_reads tag.are_specified
  element_reads (content.filled s tag inner p parts result) = specified_reads tag.are_specified + content_reads inner

  pub content_reads : {d : Declared} {text : List ℕ} {events : List XmlEvent} → IsXmlContent d text events → ℕ
  content_reads content.no_content = 0
  content_reads (content.character_and p q r more) = content_reads more
  content_reads (content.element_and element more parts result) = element_reads element + content_reads more
  content_reads (content.section_and body l more parts result) = content_reads more
  content_reads (content.nothing_and part is more parts) = content_reads more
  content_reads (content.reference_and r more parts) = content_reads more
  content_reads (content.entity_and {name = name} {replacement = replacement} n e inner more parts result) =
      entity_size name replacement + (content_reads inner + content_reads more)
  content_reads (content.unread_and n e more parts) = content_reads more

abbrev pub default_reads : {d : Declared} {tokenized : Bool} {text : List ℕ} {default : Option (List ℕ)} → IsDefaultDeclaration d tokenized text default → ℕ
default_reads (declarations.no_default is) = 0
default_reads (declarations.default_value start is quoted value parts) = value_reads value

abbrev pub defaults_read : {d : Declared} {element text : List ℕ} {attributes : List DeclaredAttribute} → AreAttributeDefinitions d element text attributes → ℕ
defaults_read (declarations.no_definitions s) = 0
defaults_read (declarations.definition_and s n t u p q r type v default more parts) = default_reads default + defaults_read more

abbrev pub subset_reads : {inside : Bool} {text : List ℕ} {d last : Declared} → IsSubset inside text d last → ℕ
subset_reads subset.no_more = 0
subset_reads (subset.neutral_and part is more parts) = subset_reads more
subset_reads (subset.general_and is more parts) = subset_reads more
subset_reads (subset.parameter_and is p more parts) = subset_reads more
subset_reads (subset.attributes_and is more parts) = defaults_read is.are_definitions + subset_reads more
subset_reads (subset.read_and {replacement = replacement} name n is inner more parts) = length replacement + (subset_reads inner + subset_reads more)
subset_reads (subset.unread_and name n is more parts) = subset_reads more

abbrev pub doctype_reads : {standalone : Bool} {text : List ℕ} {d : Declared} → MayHaveDocumentType standalone text d → ℕ
doctype_reads subset.no_type = 0
doctype_reads (subset.name_alone start s is h m parts) = 0
doctype_reads (subset.with_declarations start s t is h m declares n parts) = subset_reads declares

abbrev pub document_reads : {bytes : List ℕ} {d : Declared} {events : List XmlEvent} → IsXml bytes d events → ℕ
document_reads xml = doctype_reads xml.is_doctype + element_reads xml.is_root

-- ---- how many elements and entities are open at the same time, at most

abbrev pub open_in : List ℕ → ℕ → ℕ
open_in name inner = if is_predefined name then 0 else suc inner

abbrev pub value_depth : {d : Declared} {text value : List ℕ} → IsAttributeValue d text value → ℕ
value_depth values.no_text = 0
value_depth (values.character_and p q more) = value_depth more
value_depth (values.reference_and r more parts) = value_depth more
value_depth (values.entity_and {name = name} n e l inner more parts result) = max (open_in name (value_depth inner)) (value_depth more)
value_depth (values.unknown_and n u more parts) = value_depth more

abbrev pub specified_depth : {d : Declared} {text : List ℕ} {specified : List (List ℕ × List ℕ)} → AreSpecified d text specified → ℕ
specified_depth (content.none_specified s) = 0
specified_depth (content.specified_and s n e p q r quoted value more parts) = max (value_depth value) (specified_depth more)

abbrev mutual
  pub element_depth : {d : Declared} {text : List ℕ} {events : List XmlEvent} → IsXmlElement d text events → ℕ
  element_depth (content.empty tag parts) = suc (specified_depth tag.are_specified)
  element_depth (content.filled s tag inner p parts result) = suc (max (specified_depth tag.are_specified) (content_depth inner))

  pub content_depth : {d : Declared} {text : List ℕ} {events : List XmlEvent} → IsXmlContent d text events → ℕ
  content_depth content.no_content = 0
  content_depth (content.character_and p q r more) = content_depth more
  content_depth (content.element_and element more parts result) = max (element_depth element) (content_depth more)
  content_depth (content.section_and body l more parts result) = content_depth more
  content_depth (content.nothing_and part is more parts) = content_depth more
  content_depth (content.reference_and r more parts) = content_depth more
  content_depth (content.entity_and {name = name} n e inner more parts result) = max (open_in name (content_depth inner)) (content_depth more)
  content_depth (content.unread_and n e more parts) = content_depth more

abbrev pub default_depth : {d : Declared} {tokenized : Bool} {text : List ℕ} {default : Option (List ℕ)} → IsDefaultDeclaration d tokenized text default → ℕ
default_depth (declarations.no_default is) = 0
default_depth (declarations.default_value start is quoted value parts) = value_depth value

abbrev pub defaults_depth : {d : Declared} {element text : List ℕ} {attributes : List DeclaredAttribute} → AreAttributeDefinitions d element text attributes → ℕ
defaults_depth (declarations.no_definitions s) = 0
defaults_depth (declarations.definition_and s n t u p q r type v default more parts) = max (default_depth default) (defaults_depth more)

abbrev pub subset_depth : {inside : Bool} {text : List ℕ} {d last : Declared} → IsSubset inside text d last → ℕ
subset_depth subset.no_more = 0
subset_depth (subset.neutral_and part is more parts) = subset_depth more
subset_depth (subset.general_and is more parts) = subset_depth more
subset_depth (subset.parameter_and is p more parts) = subset_depth more
subset_depth (subset.attributes_and is more parts) = max (defaults_depth is.are_definitions) (subset_depth more)
subset_depth (subset.read_and name n is inner more parts) = max (suc (subset_depth inner)) (subset_depth more)
subset_depth (subset.unread_and name n is more parts) = subset_depth more

abbrev pub doctype_depth : {standalone : Bool} {text : List ℕ} {d : Declared} → MayHaveDocumentType standalone text d → ℕ
doctype_depth subset.no_type = 0
doctype_depth (subset.name_alone start s is h m parts) = 0
doctype_depth (subset.with_declarations start s t is h m declares n parts) = subset_depth declares

abbrev pub document_depth : {bytes : List ℕ} {d : Declared} {events : List XmlEvent} → IsXml bytes d events → ℕ
document_depth xml = max (doctype_depth xml.is_doctype) (element_depth xml.is_root)

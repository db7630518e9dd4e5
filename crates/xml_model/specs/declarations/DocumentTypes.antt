-- The document type declaration (XML 1.0 Fifth Edition, sections 2.8, 3.4, 4.4.8 and 5.1; Namespaces in XML 1.0, section 5,
-- production 16): the internal subset, and the parameter entities that are read, which are those of the document's own.
-- External ones are not read.
use Rattle.std.specs.Prelude.{ℕ, Bool, true, false, if◌then◌else◌, ◌||◌, List, [], ◌++◌, Some, ◌≡◌, ◌≢◌, codes}
use Rattle.std.specs.Map.{lookup}
use Rattle.std.specs.Str.{bytes_eq}
use Rattle.xml_model.specs.characters.Productions.{Part, verbatim, ◌▸◌, ◌∣◌, Space, MaySpace, QualifiedName, NCName, ExternalId, Comment, Instruction}
use Rattle.xml_model.specs.characters.Productions.{parameter_reference}
use Rattle.xml_model.specs.declarations.Declared.{Declared, DeclaredAttribute, Entity, internal, unparsed, initially, with_general, with_parameter, with_attributes}
use Rattle.xml_model.specs.declarations.MarkupDeclarations.{ElementDeclaration, NotationDeclaration, DeclaresAttributes, DeclaresEntity}

-- the members of markupdecl and DeclSep (productions 29 and 28a) that declare nothing that a document says
abbrev pub NeutralPart : Part
NeutralPart = ElementDeclaration ∣ NotationDeclaration ∣ Instruction ∣ Comment ∣ Space

-- what a default value may refer to: in a parameter entity, also what is declared in one alone (WFC Entity Declared)
abbrev pub for_defaults : Bool → Declared → Declared
for_defaults inside d = if inside then record d { standalone = false } else d

-- intSubset, and inside a parameter entity extSubsetDecl (productions 28b and 31): what is declared before and behind.
-- Conditional sections are in external entities only (section 3.4).
pub data IsSubset : Bool → List ℕ → Declared → Declared → Type 0 where
  no_more : {inside : Bool} {d : Declared} → IsSubset inside [] d d
  neutral_and : {inside : Bool} {all text : List ℕ} {d last : Declared} (part : List ℕ) → NeutralPart part → IsSubset inside text d last → all ≡ part ++ text
      → IsSubset inside all d last
  general_and : {inside : Bool} {all part text name : List ℕ} {d last : Declared} {e : Entity} → DeclaresEntity Space part name e
      → IsSubset inside text (with_general inside name e d) last → all ≡ part ++ text → IsSubset inside all d last
  parameter_and : {inside : Bool} {all part text name : List ℕ} {d last : Declared} {e : Entity} → DeclaresEntity (Space ▸ verbatim "%" ▸ Space) part name e
      → e ≢ unparsed → IsSubset inside text (with_parameter name e d) last → all ≡ part ++ text → IsSubset inside all d last
  attributes_and : {inside : Bool} {all part text : List ℕ} {d last : Declared} {attributes : List DeclaredAttribute}
      → DeclaresAttributes (for_defaults inside d) part attributes → IsSubset inside text (with_attributes attributes d) last → all ≡ part ++ text
      → IsSubset inside all d last
  -- a reference to a parameter entity that is read (production 69; WFC PE Between Declarations, No Recursion)
  read_and : {inside : Bool} {all replacement text : List ℕ} {d middle last : Declared} (name : List ℕ) → NCName name
      → lookup (bytes_eq name) d.parameter ≡ Some (internal replacement) → IsSubset true replacement (record d { has_more = true }) middle
      → IsSubset inside text middle last → all ≡ parameter_reference name ++ text → IsSubset inside all d last
  -- and to one that is not: it is external, or its declaration is not read
  unread_and : {inside : Bool} {all text : List ℕ} {d last : Declared} (name : List ℕ) → NCName name
      → ((replacement : List ℕ) → lookup (bytes_eq name) d.parameter ≢ Some (internal replacement))
      → IsSubset inside text (record d { has_more = true; unread = true }) last → all ≡ parameter_reference name ++ text → IsSubset inside all d last

-- there is an external subset, or none
pub data MayHaveExternalSubset : List ℕ → Bool → Type 0 where
  without_subset : MayHaveExternalSubset [] false
  with_subset : {text : List ℕ} → (Space ▸ ExternalId) text → MayHaveExternalSubset text true

-- doctypedecl (production 28), or nothing. The external subset is not read.
pub data MayHaveDocumentType (standalone : Bool) : List ℕ → Declared → Type 0 where
  no_type : MayHaveDocumentType standalone [] (initially standalone false)
  name_alone : {all id : List ℕ} {has_subset : Bool} (start s : List ℕ) → (verbatim "<!DOCTYPE" ▸ Space ▸ QualifiedName) start
      → MayHaveExternalSubset id has_subset → MaySpace s → all ≡ start ++ (id ++ (s ++ codes ">"))
      → MayHaveDocumentType standalone all (record (initially standalone has_subset) { unread = has_subset })
  with_declarations : {all id subset : List ℕ} {has_subset : Bool} {d : Declared} (start s t : List ℕ) → (verbatim "<!DOCTYPE" ▸ Space ▸ QualifiedName) start
      → MayHaveExternalSubset id has_subset → MaySpace s → IsSubset false subset (initially standalone has_subset) d → MaySpace t
      → all ≡ start ++ (id ++ (s ++ (codes "[" ++ (subset ++ (codes "]" ++ (t ++ codes ">"))))))
      → MayHaveDocumentType standalone all (record d { unread = d.unread || has_subset })

-- Markup declarations (XML 1.0 Fifth Edition, sections 3.2, 3.3, 4.2 and 4.7; names by Namespaces in XML 1.0, section 5, productions
-- 17 to 21). Declarations of elements and notations declare nothing that a document says. They have to be written rightly.
use Rattle.std.specs.Prelude.{ℕ, Bool, true, false, List, [], ◌∷◌, ◌++◌, Option, Some, None, ◌≡◌, codes}
use Rattle.xml_model.specs.characters.Productions.{Part, verbatim, ◌▸◌, ◌∣◌, may, Many, Space, MaySpace, QualifiedName, NCName, Nmtoken, IsQuoted}
use Rattle.xml_model.specs.characters.Productions.{ExternalId, PublicLiteral}
use Rattle.xml_model.specs.declarations.Declared.{Declared, DeclaredAttribute, Entity, internal, external, unparsed, typed}
use Rattle.xml_model.specs.declarations.Literals.{IsEntityText, IsAttributeValue}

-- P, and then any number of Q with a `|` before each, in parentheses, with S? between all of these
abbrev pub Alternatives : Part → Part → Part
Alternatives P Q = verbatim "(" ▸ MaySpace ▸ P ▸ Many (MaySpace ▸ verbatim "|" ▸ MaySpace ▸ Q) ▸ MaySpace ▸ verbatim ")"

-- ---- elements

-- nothing, `?`, `*` or `+`, behind a content particle
abbrev pub Occurrences : Part
Occurrences = may (verbatim "?" ∣ verbatim "*" ∣ verbatim "+")

mutual
  -- cp (production 48)
  pub data IsContentParticle : List ℕ → Type 0 where
    name : {all : List ℕ} (n o : List ℕ) → QualifiedName n → Occurrences o → all ≡ n ++ o → IsContentParticle all
    group : {all g : List ℕ} (o : List ℕ) → IsParticleGroup g → Occurrences o → all ≡ g ++ o → IsContentParticle all

  -- choice and seq (productions 49 and 50): particles with the same sign between them
  pub data IsParticleGroup : List ℕ → Type 0 where
    members : {all p more : List ℕ} (sign s : List ℕ) → (verbatim "|" ∣ verbatim ",") sign → MaySpace s → IsContentParticle p → AreMoreParticles sign more
        → all ≡ codes "(" ++ (s ++ (p ++ more)) → IsParticleGroup all

  pub data AreMoreParticles : List ℕ → List ℕ → Type 0 where
    close : {sign all : List ℕ} (s : List ℕ) → MaySpace s → all ≡ s ++ codes ")" → AreMoreParticles sign all
    more_and : {sign all p more : List ℕ} (s t : List ℕ) → MaySpace s → MaySpace t → IsContentParticle p → AreMoreParticles sign more
        → all ≡ s ++ (sign ++ (t ++ (p ++ more))) → AreMoreParticles sign all

-- Mixed (production 51)
abbrev pub MixedContent : Part
MixedContent = Alternatives (verbatim "#PCDATA") QualifiedName ▸ verbatim "*" ∣ verbatim "(" ▸ MaySpace ▸ verbatim "#PCDATA" ▸ MaySpace ▸ verbatim ")"

-- contentspec and children (productions 46 and 47)
abbrev pub ContentSpecification : Part
ContentSpecification = verbatim "EMPTY" ∣ verbatim "ANY" ∣ MixedContent ∣ IsParticleGroup ▸ Occurrences

-- elementdecl (production 45)
abbrev pub ElementDeclaration : Part
ElementDeclaration = verbatim "<!ELEMENT" ▸ Space ▸ QualifiedName ▸ Space ▸ ContentSpecification ▸ MaySpace ▸ verbatim ">"

-- ---- notations

-- NotationDecl and PublicID (productions 82 and 83)
abbrev pub NotationDeclaration : Part
NotationDeclaration =
    verbatim "<!NOTATION" ▸ Space ▸ NCName ▸ Space ▸ (ExternalId ∣ verbatim "PUBLIC" ▸ Space ▸ PublicLiteral) ▸ MaySpace ▸ verbatim ">"

-- ---- attributes

-- TokenizedType (production 56)
abbrev pub TokenizedType : Part
TokenizedType = verbatim "ID" ∣ verbatim "IDREF" ∣ verbatim "IDREFS" ∣ verbatim "ENTITY" ∣ verbatim "ENTITIES" ∣ verbatim "NMTOKEN" ∣ verbatim "NMTOKENS"

-- EnumeratedType, NotationType and Enumeration (productions 57 to 59)
abbrev pub EnumeratedType : Part
EnumeratedType = verbatim "NOTATION" ▸ Space ▸ Alternatives NCName NCName ∣ Alternatives Nmtoken Nmtoken

-- AttType and StringType (productions 54 and 55), and whether it is another type than CDATA
pub data IsAttributeType : List ℕ → Bool → Type 0 where
  string : {text : List ℕ} → verbatim "CDATA" text → IsAttributeType text false
  tokens : {text : List ℕ} → (TokenizedType ∣ EnumeratedType) text → IsAttributeType text true

-- DefaultDecl (production 60), and the default value of the attribute, if it has one
pub data IsDefaultDeclaration (d : Declared) (tokenized : Bool) : List ℕ → Option (List ℕ) → Type 0 where
  no_default : {text : List ℕ} → (verbatim "#REQUIRED" ∣ verbatim "#IMPLIED") text → IsDefaultDeclaration d tokenized text None
  default_value : {all q text value : List ℕ} (start : List ℕ) → may (verbatim "#FIXED" ▸ Space) start → IsQuoted q text → IsAttributeValue d text value
      → all ≡ start ++ q → IsDefaultDeclaration d tokenized all (Some (typed tokenized value))

-- AttDef* S? (production 53)
pub data AreAttributeDefinitions (d : Declared) (element : List ℕ) : List ℕ → List DeclaredAttribute → Type 0 where
  no_definitions : {text : List ℕ} → MaySpace text → AreAttributeDefinitions d element text []
  definition_and : {all type default more : List ℕ} {tokenized : Bool} {value : Option (List ℕ)} {attributes : List DeclaredAttribute} (s n t u : List ℕ) → Space s
      → QualifiedName n → Space t → IsAttributeType type tokenized → Space u → IsDefaultDeclaration d tokenized default value
      → AreAttributeDefinitions d element more attributes → all ≡ s ++ (n ++ (t ++ (type ++ (u ++ (default ++ more)))))
      → AreAttributeDefinitions d element all (record { element = element; name = n; tokenized = tokenized; default = value } ∷ attributes)

-- AttlistDecl (production 52). In d is what is declared before: a declaration precedes each reference to it in a default
-- (WFC Entity Declared).
pub record DeclaresAttributes (d : Declared) (all : List ℕ) (attributes : List DeclaredAttribute) : Type 0 where
  pub space : List ℕ
  pub element : List ℕ
  pub definitions : List ℕ
  pub is_space : Space space
  pub is_name : QualifiedName element
  pub are_definitions : AreAttributeDefinitions d element definitions attributes
  pub parts : all ≡ codes "<!ATTLIST" ++ (space ++ (element ++ (definitions ++ codes ">")))

-- ---- entities

-- EntityDef, PEDef and NDataDecl (productions 73, 74 and 76); only a general entity may be unparsed
pub data IsEntityDefinition : List ℕ → Entity → Type 0 where
  value : {q text replacement : List ℕ} → IsQuoted q text → IsEntityText text replacement → IsEntityDefinition q (internal replacement)
  id : {text : List ℕ} → ExternalId text → IsEntityDefinition text external
  data_of : {text : List ℕ} → (ExternalId ▸ Space ▸ verbatim "NDATA" ▸ Space ▸ NCName) text → IsEntityDefinition text unparsed

-- EntityDecl, GEDecl and PEDecl (productions 70 to 72): what is between `<!ENTITY` and the name is S, or S, `%` and S
pub record DeclaresEntity (Before : List ℕ → Type 0) (all name : List ℕ) (e : Entity) : Type 0 where
  pub before : List ℕ
  pub space : List ℕ
  pub definition : List ℕ
  pub end : List ℕ
  pub is_before : Before before
  pub is_name : NCName name
  pub is_space : Space space
  pub is_definition : IsEntityDefinition definition e
  pub is_end : MaySpace end
  pub parts : all ≡ codes "<!ENTITY" ++ (before ++ (name ++ (space ++ (definition ++ (end ++ codes ">")))))

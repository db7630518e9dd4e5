-- Documents (XML 1.0 Fifth Edition, sections 2.1, 2.8, 2.9 and 4.3.3): the declaration of a document, and the whole of it.
use Prim.Native.String.{String}
use Rattle.std.specs.Prelude.{ℕ, Bool, true, false, List, [], ◌∷◌, ◌++◌, Option, Some, None, ◌≡◌, ◌&&◌, ◌||◌, codes}
use Rattle.std.specs.List.{list_all}
use Rattle.std.specs.Char.{is_ascii_alphabetic, is_ascii_alphanumeric, char_set_contains}
use Rattle.std.specs.Str.{bytes_eq}
use Rattle.std.specs.Str.Parse.{IsNumeral}
use Rattle.xml_model.specs.characters.Encodings.{Coding, IsText, IsEncoded, bytes_in, may_declare}
use Rattle.xml_model.specs.characters.Productions.{Part, verbatim, ◌▸◌, Space, MaySpace, Quoted, Eq, Misc}
use Rattle.xml_model.specs.declarations.Declared.{Declared}
use Rattle.xml_model.specs.declarations.DocumentTypes.{MayHaveDocumentType}
use Rattle.xml_model.specs.documents.Content.{XmlEvent, IsXmlElement}

-- ---- the declaration

-- S, a word, Eq, and a quoted text
abbrev pub NamedSetting : String → (List ℕ → Type 0) → Part
NamedSetting word P = Space ▸ verbatim word ▸ Eq ▸ Quoted P

-- VersionNum (production 26)
abbrev pub VersionNumber : Part
VersionNumber = verbatim "1." ▸ IsNumeral 10

-- EncName (production 81)
abbrev pub is_encoding_name : List ℕ → Bool
is_encoding_name [] = false
is_encoding_name (c ∷ cs) = is_ascii_alphabetic c && list_all (λ d. is_ascii_alphanumeric d || char_set_contains (codes "._-") d) cs

-- EncodingDecl (production 80), or nothing
pub data MayNameEncoding : List ℕ → Option (List ℕ) → Type 0 where
  no_encoding : MayNameEncoding [] None
  encoding : {all name : List ℕ} → is_encoding_name name ≡ true → NamedSetting "encoding" (λ text. text ≡ name) all → MayNameEncoding all (Some name)

-- SDDecl (production 32), or nothing: then it is not standalone (section 2.9)
pub data MayBeStandalone : List ℕ → Bool → Type 0 where
  nothing : MayBeStandalone [] false
  no : {all : List ℕ} → NamedSetting "standalone" (verbatim "no") all → MayBeStandalone all false
  yes : {all : List ℕ} → NamedSetting "standalone" (verbatim "yes") all → MayBeStandalone all true

-- XMLDecl and VersionInfo (productions 23 and 24), or nothing: such a document is read as one of version 1.0
pub data MayDeclareXml : List ℕ → (version : List ℕ) → Option (List ℕ) → Bool → Type 0 where
  no_declaration : MayDeclareXml [] (codes "1.0") None false
  declaration : {all e a version : List ℕ} {name : Option (List ℕ)} {standalone : Bool} (v s : List ℕ) → VersionNumber version
      → NamedSetting "version" (λ text. text ≡ version) v → MayNameEncoding e name → MayBeStandalone a standalone → MaySpace s
      → all ≡ codes "<?xml" ++ (v ++ (e ++ (a ++ (s ++ codes "?>")))) → MayDeclareXml all version name standalone

-- ---- the document

-- document and prolog (productions 1 and 22): the bytes are well-formed XML as far as this processor reads, with these
-- declarations, and tell these events
pub record IsXml (bytes : List ℕ) (d : Declared) (events : List XmlEvent) : Type 0 where
  pub coding : Coding
  pub text : List ℕ
  pub is_text : IsText coding bytes text
  pub declaration : List ℕ
  pub before : List ℕ
  pub doctype : List ℕ
  pub between : List ℕ
  pub root : List ℕ
  pub behind : List ℕ
  pub parts : text ≡ declaration ++ (before ++ (doctype ++ (between ++ (root ++ behind))))
  pub version : List ℕ
  pub encoding : Option (List ℕ)
  pub standalone : Bool
  pub is_declaration : MayDeclareXml declaration version encoding standalone
  -- other versions than 1.1 are read as 1.0 (section 2.8)
  pub in_version : bytes_eq version (codes "1.1") ≡ false
  pub in_encoding : may_declare coding encoding ≡ true
  pub misc_before : Misc before
  pub is_doctype : MayHaveDocumentType standalone doctype d
  pub misc_between : Misc between
  pub is_root : IsXmlElement d root events
  pub misc_behind : Misc behind

-- A declaration names an encoding that these definitions do not read: in ASCII, or in UTF-16 without a mark (`UTF-16LE`,
-- `UTF-16BE`). With a mark the encoding is the one of the mark (section 4.3.3).
pub record NamesOtherEncoding (bytes : List ℕ) : Type 0 where
  pub coding : Coding
  pub declaration : List ℕ
  pub behind : List ℕ
  pub version : List ℕ
  pub name : List ℕ
  pub standalone : Bool
  pub parts : bytes ≡ bytes_in coding declaration ++ behind
  pub is_declaration : MayDeclareXml declaration version (Some name) standalone
  pub other : (coding : Coding) → may_declare coding (Some name) ≡ false

-- a declaration, in an encoding that these definitions read, says that the document is in XML 1.1, which they do not read
pub record IsVersion11 (bytes : List ℕ) : Type 0 where
  pub coding : Coding
  pub front : List ℕ
  pub behind : List ℕ
  pub declaration : List ℕ
  pub encoding : Option (List ℕ)
  pub standalone : Bool
  pub parts : bytes ≡ front ++ behind
  pub is_front : IsEncoded coding front declaration
  pub is_declaration : MayDeclareXml declaration (codes "1.1") encoding standalone
  pub in_encoding : may_declare coding encoding ≡ true

-- The verdict on a document, and which files are a schema that breaks no clause.
use Rattle.std.specs.Prelude.{⊤, ◌≡◌, ℕ, List, ◌++◌, Option, Some, None, ◌≤◌, ◌⊎◌, [], All, length, take}
use Rattle.std.specs.Io.KnownBytes.{Consumes}
use Rattle.rng_model.specs.matching.Document.{Item}
use Rattle.rng_model.specs.documents.Lines.{lines}
use Rattle.rng_model.specs.names.Names.{In}
use Rattle.rng_model.specs.documents.PyxClauses.{IsFirstFault}
use Rattle.rng_model.specs.documents.PyxTrees.{EventKind, a_start, a_string, an_end, Placed, item_of, events_of, IsPyxDocument}
use Rattle.rncv_model.specs.declared.verdict.Verdict.{Verdict}
use Rattle.rncv_model.specs.declared.verdict.Verdict.TheVariants.{Valid, Malformed, Invalid}
use Rattle.rng_model.specs.names.Names as names
use Rattle.rng_model.specs.schema.Schema.{Schema}
use Rattle.rng_model.specs.schema.SchemaClauses.{BreaksNoClause, IsLeastClause}
use Rattle.rng_model.specs.simple.SchemaForm.{SimpleForm, IsSimpleFormOfSchema}
use Rattle.rnc_model.specs.loading.Loading.{TakenFiles, are_taken, FilesHaveOnlyVerdict}
use Rattle.rnc_model.specs.loading.LoadedSchema.{AreSchema}
use Rattle.rnc_model.specs.loading.SchemaFile.{FileName, NamedFile}

-- ---- what was read of an input, and what is left of it

-- these bytes are left, if it is known which are
abbrev pub HasLeft : Option (List ℕ) → List ℕ → Type 0
HasLeft None rest = ⊤
HasLeft (Some bytes) rest = bytes ≡ rest

-- the input had these bytes left, and now has the rest of them left
pub record IsRead (input_old input_new : Option (List ℕ)) (bytes rest : List ℕ) : Type 0 where
  pub read : List ℕ
  pub parts : bytes ≡ read ++ rest
  pub consumed : Consumes input_old input_new read
  pub left : HasLeft input_new rest

-- ---- verdicts, given which documents are valid and which names no element may have

-- the bytes are a document that is valid
abbrev pub IsValidDocument : (Item → Type 0) → List ℕ → Type 0
IsValidDocument IsValid bytes = (document : Placed) × IsPyxDocument bytes document × IsValid (item_of document)

-- no document with the same first n lines is valid
abbrev pub CannotBeValid : (Item → Type 0) → List ℕ → ℕ → Type 0
CannotBeValid IsValid bytes n = (other : List ℕ) → take n (lines other) ≡ take n (lines bytes) → ¬ (IsValidDocument IsValid other)

-- the start of an element with a name that no element may have
abbrev pub StartsUnknown : (names.Name → Type 0) → EventKind → Type 0
StartsUnknown IsUnknown (a_start name attrs) = IsUnknown name
StartsUnknown IsUnknown (a_string text) = ⊥
StartsUnknown IsUnknown an_end = ⊥

-- The bytes are a document, and n is one of its lines. No document that begins with its lines up to n is valid. No
-- start of an element with a name that no element may have is reported before line n.
pub record IsInvalidFrom (IsValid : Item → Type 0) (IsUnknown : names.Name → Type 0) (bytes : List ℕ) (n : ℕ) : Type 0 where
  pub document : Placed
  pub is_document : IsPyxDocument bytes document
  pub not_before : 1 ≤ n
  pub within : n ≤ length (lines bytes)
  pub cannot : CannotBeValid IsValid bytes n
  pub known : All (λ e. StartsUnknown IsUnknown e.kind → n ≤ e.line) (events_of document)

-- Valid: the bytes are a document, and it is valid. Malformed: this is the broken clause of the least line, and of the
-- least number there. Invalid: the bytes are a document, and it is invalid from this line on.
abbrev pub IsVerdict : (Item → Type 0) → (names.Name → Type 0) → List ℕ → Verdict → Type 0
IsVerdict IsValid IsUnknown bytes Valid = IsValidDocument IsValid bytes
IsVerdict IsValid IsUnknown bytes (Malformed clause line) = IsFirstFault (lines bytes) (record { clause = clause; line = line })
IsVerdict IsValid IsUnknown bytes (Invalid n) = IsInvalidFrom IsValid IsUnknown bytes n

-- the verdicts are equal, except for the line of an invalid document
abbrev pub AreSameVerdict : Verdict → Verdict → Type 0
AreSameVerdict Valid w = w ≡ Valid
AreSameVerdict (Malformed clause line) w = w ≡ Malformed clause line
AreSameVerdict (Invalid n) w = (m : ℕ) × (w ≡ Invalid m)

-- every verdict that holds is this one
abbrev pub IsOnlyVerdict : (Item → Type 0) → (names.Name → Type 0) → List ℕ → Verdict → Type 0
IsOnlyVerdict IsValid IsUnknown bytes v = (w : Verdict) → IsVerdict IsValid IsUnknown bytes w → AreSameVerdict v w

abbrev pub IsMalformedVerdict : Verdict → Type 0
IsMalformedVerdict Valid = ⊥
IsMalformedVerdict (Malformed clause line) = ⊤
IsMalformedVerdict (Invalid n) = ⊥

-- This is the verdict on the bytes that an input had left, and it is unique. The input was read to its end, except
-- perhaps for a malformed document.
pub record IsJudgedBy (IsValid : Item → Type 0) (IsUnknown : names.Name → Type 0) (verdict : Verdict) (input_old input_new : Option (List ℕ)) : Type 0 where
  pub document : List ℕ
  pub rest : List ℕ
  pub read : IsRead input_old input_new document rest
  pub to_end : (rest ≡ []) ⊎ IsMalformedVerdict verdict
  pub verdict_is : IsVerdict IsValid IsUnknown document verdict
  pub only : IsOnlyVerdict IsValid IsUnknown document verdict

-- ---- schemas

-- the files are this schema
pub record AreTakenAs (files : List NamedFile) (main : FileName) (s : Schema) : Type 0 where
  pub read : TakenFiles
  pub is_verdict : FilesHaveOnlyVerdict files main (are_taken read)
  pub are : AreSchema read main s

-- the files are this schema, and it breaks no clause
pub record AreGoodSchema (files : List NamedFile) (main : FileName) (s : Schema) : Type 0 where
  pub are : AreTakenAs files main s
  pub good : BreaksNoClause s

-- the files are a schema, and this is the least clause that it breaks
pub record HaveLeastClause (files : List NamedFile) (main : FileName) (clause : ℕ) : Type 0 where
  pub schema : Schema
  pub are : AreTakenAs files main schema
  pub least : IsLeastClause schema clause

-- no element of the schema's simple form may have this name
abbrev pub IsUnknownIn : Schema → names.Name → Type 0
IsUnknownIn s name = (f : SimpleForm) × IsSimpleFormOfSchema s f × All (λ e. ¬ (In e.class name)) f.elements

-- What is reported of the files of a schema when they are compiled, and of documents by this schema; and the same with a
-- set of datatypes. With the set `Profile` all of this is what the other definitions and Verdict say.
use Rattle.std.specs.Prelude.{⊤, ◌⊎◌, ℕ, List, string_bytes}
use Rattle.rng_model.specs.schema.Schema.{Schema}
use Rattle.rng_model.specs.xsd.SchemasWith.{BreaksNoClauseWith, IsLeastClauseWith, IsValidBySchemaWith}
use Rattle.rng_model.specs.declared.fault.SchemaFault.{SchemaFault}
use Rattle.rng_model.specs.declared.fault.SchemaFault.TheVariants as faults
use Rattle.rng_model.specs.declared.type_set.TypeSet.{TypeSet}
use Rattle.rnc_model.specs.loading.Loading.{file_breaks, together_break, FilesHaveOnlyVerdict}
use Rattle.rnc_model.specs.loading.SchemaFile.{FileName, NamedFile}
use Rattle.rncv_model.specs.answers.Verdict.{AreTakenAs, IsUnknownIn, IsVerdict, IsOnlyVerdict, HaveLeastClause}
use Rattle.rncv_model.specs.declared.verdict.Verdict.{Verdict}
use Rattle.rng_model.specs.matching.SchemaMatching.{IsValidBySchema}

-- the files are this schema, and it breaks no clause
pub record AreGoodSchemaWith (types : TypeSet) (files : List NamedFile) (main : FileName) (s : Schema) : Type 0 where
  pub are : AreTakenAs files main s
  pub good : BreaksNoClauseWith types s

-- the files are a schema, and this is the least clause that it breaks
pub record HaveLeastClauseWith (types : TypeSet) (files : List NamedFile) (main : FileName) (clause : ℕ) : Type 0 where
  pub schema : Schema
  pub are : AreTakenAs files main schema
  pub least : IsLeastClauseWith types schema clause

-- What is reported of files that are not a schema, or whose schema breaks a clause: the clause that a file breaks by
-- itself, with its name; otherwise the clause that the files break together; otherwise the least clause that their
-- schema breaks. Out of memory reports nothing.
abbrev pub IsRefusalWith : TypeSet → List NamedFile → FileName → SchemaFault → Type 0
IsRefusalWith types files main (faults.File clause name) = FilesHaveOnlyVerdict files main (file_breaks (string_bytes name) clause)
IsRefusalWith types files main (faults.Clause clause) = FilesHaveOnlyVerdict files main (together_break clause) ⊎ HaveLeastClauseWith types files main clause
IsRefusalWith types files main faults.Memory = ⊤

-- this is the verdict on these bytes by the schema as it is written, and no other one holds
pub record IsVerdictOnWith (types : TypeSet) (s : Schema) (bytes : List ℕ) (v : Verdict) : Type 0 where
  pub is : IsVerdict (IsValidBySchemaWith types s) (IsUnknownIn s) bytes v
  pub only : IsOnlyVerdict (IsValidBySchemaWith types s) (IsUnknownIn s) bytes v

-- What is reported of files that are not a schema, or whose schema breaks a clause: the clause that a file breaks by
-- itself, with its name; otherwise the clause that the files break together; otherwise the least clause that their
-- schema breaks. Out of memory reports nothing.
abbrev pub IsRefusal : List NamedFile → FileName → SchemaFault → Type 0
IsRefusal files main (faults.File clause name) = FilesHaveOnlyVerdict files main (file_breaks (string_bytes name) clause)
IsRefusal files main (faults.Clause clause) = FilesHaveOnlyVerdict files main (together_break clause) ⊎ HaveLeastClause files main clause
IsRefusal files main faults.Memory = ⊤

-- this is the verdict on these bytes by the schema as it is written, and no other one holds
pub record IsVerdictOn (s : Schema) (bytes : List ℕ) (v : Verdict) : Type 0 where
  pub is : IsVerdict (IsValidBySchema s) (IsUnknownIn s) bytes v
  pub only : IsOnlyVerdict (IsValidBySchema s) (IsUnknownIn s) bytes v

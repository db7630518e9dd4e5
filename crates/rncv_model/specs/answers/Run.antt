-- What a run answers, and what it leaves written.
use Rattle.std.specs.Prelude.{◌≡◌, ℕ, List, [], ◌∷◌, Option, string_bytes}
use Rattle.std.specs.Io.KnownBytes.{Appends, Keeps}
use Rattle.rng_model.specs.schema.Schema.{Schema}
use Rattle.rng_model.specs.matching.SchemaMatching.{IsValidBySchema}
use Rattle.rng_model.specs.devices.Device.{AppendsBeginning}
use Rattle.rnc_model.specs.loading.Loading.{file_breaks, together_break, FilesHaveOnlyVerdict}
use Rattle.rnc_model.specs.loading.SchemaFile.{FileName, NamedFile}
use Rattle.rncv_model.specs.answers.Answer.{Answer, refused, refused_file, schema_ok, printed, judged, output_of, status_of}
use Rattle.rncv_model.specs.answers.Verdict.{AreGoodSchema, HaveLeastClause, IsUnknownIn, IsJudgedBy}
use Rattle.rncv_model.specs.printed.SchemaText.{IsPrintedForm}
use Rattle.rncv_model.specs.declared.status.Status.{Status}
use Rattle.rncv_model.specs.declared.verdict.Verdict.{Verdict}
use Rattle.rncv_model.specs.declared.command.Command.{Command}
use Rattle.rncv_model.specs.declared.command.Command.TheVariants.{Valid, Check, Simple}
use Rattle.rncv_model.specs.declared.run_fault.RunFault.{RunFault}
use Rattle.rncv_model.specs.declared.run_fault.RunFault.TheVariants.{Memory, Read, Write}
use Rattle.std.proofs.Common.{String, Vec, Global}

-- the name of the first file, which is the main one
abbrev pub main_name : List (String Global × Vec ℕ Global) → FileName
main_name [] = []
main_name (file ∷ files) = string_bytes file.0

-- the verdict on what the reader had left, by this schema as it is written
abbrev pub IsJudged : Schema → Verdict → Option (List ℕ) → Option (List ℕ) → Type 0
IsJudged s = IsJudgedBy (IsValidBySchema s) (IsUnknownIn s)

-- the command judges a document, and the files are a schema that breaks no clause
pub record JudgesDocument (command : Command) (files : List NamedFile) (main : FileName) : Type 0 where
  pub command_is : command ≡ Valid
  pub schema : Schema
  pub good : AreGoodSchema files main schema

-- The answer: the clause that a file breaks by itself, with the name of the file; otherwise the clause that the files
-- break together; otherwise the least clause that their schema breaks. If it breaks none: that it is good, its printed
-- simple form, or the verdict on the document.
pub data IsAnswer (command : Command) (files : List NamedFile) (main : FileName) (input_old input_new : Option (List ℕ)) : Answer → Type 0 where
  file_refused : {f : FileName} {clause : ℕ} → FilesHaveOnlyVerdict files main (file_breaks f clause)
      → IsAnswer command files main input_old input_new (refused_file clause f)
  files_refused : {clause : ℕ} → FilesHaveOnlyVerdict files main (together_break clause) → IsAnswer command files main input_old input_new (refused clause)
  schema_refused : {clause : ℕ} → HaveLeastClause files main clause → IsAnswer command files main input_old input_new (refused clause)
  schema_good : {s : Schema} → command ≡ Check → AreGoodSchema files main s → IsAnswer command files main input_old input_new schema_ok
  form_printed : {s : Schema} {text : List ℕ} → command ≡ Simple → AreGoodSchema files main s → IsPrintedForm s text
      → IsAnswer command files main input_old input_new (printed text)
  document_judged : {s : Schema} {verdict : Verdict} → command ≡ Valid → AreGoodSchema files main s → IsJudged s verdict input_old input_new
      → IsAnswer command files main input_old input_new (judged verdict)

-- exactly the answer is written, and the status is the status of the answer
pub record WritesAnswer (answers : Answer → Type 0) (status : Status) (old new : Option (List ℕ)) : Type 0 where
  pub answer : Answer
  pub is : answers answer
  pub status_is : status ≡ status_of answer
  pub output : Appends old new (output_of answer)

-- exactly a beginning of the answer is written
pub record WritesBeginning (answers : Answer → Type 0) (old new : Option (List ℕ)) : Type 0 where
  pub answer : Answer
  pub is : answers answer
  pub front : AppendsBeginning old new (output_of answer)

-- what is written after a fault: a beginning of the answer after a failed write, otherwise nothing
abbrev pub WrittenAfter : (Answer → Type 0) → RunFault → Option (List ℕ) → Option (List ℕ) → Type 0
WrittenAfter answers Memory old new = Keeps old new
WrittenAfter answers Read old new = Keeps old new
WrittenAfter answers Write old new = WritesBeginning answers old new

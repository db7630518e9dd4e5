-- What is reported to C of refused files, of datatypes, and of a document.
use Rattle.std.specs.Prelude.{◌≡◌, ◌^◌, ℕ, ℤ, pos, negsuc, nat_lt, if◌then◌else◌, List, Option, Some, None, string_bytes}
use Rattle.rng_model.specs.declared.fault.SchemaFault.{SchemaFault}
use Rattle.rng_model.specs.declared.fault.SchemaFault.TheVariants as faults
use Rattle.rng_model.specs.declared.type_set.TypeSet.{TypeSet}
use Rattle.rnc_model.specs.declared.file_place.FilePlace.{FilePlace}
use Rattle.rnc_model.specs.loading.DatatypePlaces.{BreaksDatatypeAt}
use Rattle.rnc_model.specs.loading.FaultPlaces.{BreaksClauseAt}
use Rattle.rnc_model.specs.loading.Loading.{FilesHaveOnlyVerdict, file_breaks}
use Rattle.rnc_model.specs.loading.SchemaFile.{BreaksFileClause, FileName}
use Rattle.rncv_model.specs.answers.VerdictWith.{IsRefusal, IsRefusalWith}
use Rattle.rncv_model.specs.declared.verdict.Verdict.{Verdict}
use Rattle.rncv_model.specs.declared.verdict.Verdict.TheVariants as verdicts
use Rattle.rncv_c_values.specs.views.Files.{files_of, first_file, index_of, main_of}
use Rattle.rncv_c_values.specs.declared.files.SchemaFile.{SchemaFile}
use Rattle.rncv_c_values.specs.declared.told.Judgement.{Judgement}
use Rattle.rncv_c_values.specs.declared.told.Refusal.{Refusal}

-- a number if C can hold it, otherwise -1
abbrev pub number_for_c : ℕ → ℤ
number_for_c n = if nat_lt n (2 ^ 63) then pos n else negsuc 0

-- the refusal by this clause, in the file of this index, at this place; without a place, -1 is reported
abbrev pub refusal_at : ℤ → ℕ → Option FilePlace → Refusal
refusal_at file clause None = record { clause = pos clause; file = file; offset = negsuc 0; line = negsuc 0; column = negsuc 0 }
refusal_at file clause (Some p) = record {
  clause = pos clause;
  file = file;
  offset = number_for_c p.offset;
  line = number_for_c p.line;
  column = number_for_c p.column;
}

-- the place where a file breaks the clause; none if there is no file, or if its content does not break the clause
abbrev pub IsPlaceToTell : Option SchemaFile → ℕ → Option FilePlace → Type 0
IsPlaceToTell None clause p = p ≡ None
IsPlaceToTell (Some f) clause None = ¬ (BreaksFileClause f.bytes.now clause)
IsPlaceToTell (Some f) clause (Some p) = BreaksClauseAt f.bytes.now clause p

-- this is reported of a fault; nothing is reported of out of memory
abbrev pub IsToldOf : List SchemaFile → SchemaFault → Refusal → Type 0
IsToldOf files (faults.File clause name) told =
    (place : Option FilePlace) × IsPlaceToTell (first_file (string_bytes name) files) clause place
    × (told ≡ refusal_at (index_of (string_bytes name) files) clause place)
IsToldOf files (faults.Clause clause) told = told ≡ refusal_at (negsuc 0) clause None
IsToldOf files faults.Memory told = ⊥

-- the files are refused, and this is reported of them
pub record AreRefused (files : List SchemaFile) (told : Refusal) : Type 0 where
  pub fault : SchemaFault
  pub is : IsRefusal (files_of files) (main_of files) fault
  pub told_is : IsToldOf files fault told

-- the same, with this set of datatypes
pub record AreRefusedWith (types : TypeSet) (files : List SchemaFile) (told : Refusal) : Type 0 where
  pub fault : SchemaFault
  pub is : IsRefusalWith types (files_of files) (main_of files) fault
  pub told_is : IsToldOf files fault told

-- in load order the file of this name is the first that breaks a clause by itself, whether or not it was handed in
abbrev pub IsRefusedName : List SchemaFile → FileName → Type 0
IsRefusedName files name = (clause : ℕ) × FilesHaveOnlyVerdict (files_of files) (main_of files) (file_breaks name clause)

-- the file breaks no clause by itself, this is reported of it, and the place is that of its first datatype that breaks clause 12
pub record IsPlaceOfDatatype (types : TypeSet) (file : List ℕ) (told : Refusal) : Type 0 where
  pub place : FilePlace
  pub at : BreaksDatatypeAt types file place
  pub told_is : told ≡ refusal_at (pos 0) 12 (Some place)

-- a verdict in numbers: 0 for valid, 1 for invalid, 2 for malformed
abbrev pub judgement_of : Verdict → Judgement
judgement_of verdicts.Valid = record { kind = pos 0; clause = pos 0; line = 0 }
judgement_of (verdicts.Invalid line) = record { kind = pos 1; clause = pos 0; line = line }
judgement_of (verdicts.Malformed clause line) = record { kind = pos 2; clause = pos clause; line = line }

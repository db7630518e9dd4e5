-- What the calls on a document return in numbers, given what the functions of `Document` return.
use Rattle.std.specs.Prelude.{◌≡◌, ◌⊎◌, ℕ, ℤ, List, [], ◌++◌, false, Some, None, Result, Ok, Err, IfErr, IfOk, IfSome, OnOk, unwrap_or}
use Rattle.rng_model.specs.schema.Schema.{Schema}
use Rattle.rng_model.specs.declared.fault.OutOfMemory.{OutOfMemory}
use Rattle.rng_model.specs.declared.type_set.TypeSet.{TypeSet}
use Rattle.rncv_model.specs.answers.Verdict.{IsUnknownIn, IsMalformedVerdict}
use Rattle.rncv_model.specs.answers.VerdictWith.{IsVerdictOn, IsVerdictOnWith}
use Rattle.rng_model.specs.matching.SchemaMatching.{IsValidBySchema}
use Rattle.rng_model.specs.xsd.SchemasWith.{IsValidBySchemaWith}
use Rattle.rncv_model.specs.declared.verdict.Verdict.{Verdict}
use Rattle.rncv_model.specs.declared.verdict.Verdict.TheVariants.{Invalid}
use Rattle.rng_deriv_events.specs.views.Positions.{KeepsTag, StaysInMode}
use Rattle.rncv_validator.specs.views.Documents.{HaveEnded, IsFaultOfFed, IsHopelessFrom, KnowsStarts, UnlessMemory, failed_since, told_by}
use Rattle.rncv_validator.specs.views.FedDocuments.{HasBeenFed, Judging}
use Rattle.rncv_validator.specs.views.Validators.{Judges, JudgesWith}
use Rattle.rncv_validator.specs.declared.fault.DocumentFault.{DocumentFault}
use Rattle.rncv_validator.specs.declared.fault.DocumentFault.TheVariants as faults
use Rattle.rncv_c_values.specs.views.Codes.{code_of}
use Rattle.rncv_c_values.specs.views.Told.{judgement_of}
use Rattle.rncv_c_values.specs.declared.status.Status.{Status}
use Rattle.rncv_c_values.specs.declared.status.Status.TheVariants as status
use Rattle.rncv_c_values.specs.declared.told.Judgement.{Judgement}

-- nothing is fed yet, there is no fault, and no start is kept
pub record HasBegun (document : Judging) : Type 0 where
  pub fed : HasBeenFed document []
  pub mode : KeepsTag false document.matching.progress
  pub working : document.fault ≡ None

-- the status for the result of `Document::feed`
abbrev pub status_of_feed : Result (Unit {0}) DocumentFault → Status
status_of_feed (Ok x) = status.Done
status_of_feed (Err (faults.Malformed clause line)) = status.Malformed
status_of_feed (Err faults.Memory) = status.Memory

-- A piece was fed to the document, and the call returned this number: as `Document::feed` promises.
pub record HasTaken (piece : List ℕ) (number : ℤ) (old new : Judging) : Type 0 where
  pub answer : Result (Unit {0}) DocumentFault
  pub number_is : number ≡ code_of (status_of_feed answer)
  pub grammar : new.grammar ≡ old.grammar
  pub fed : UnlessMemory answer ((bytes : List ℕ) → HasBeenFed old bytes → HasBeenFed new (bytes ++ piece))
  pub fault : IfErr answer (λ f. (new.fault ≡ Some f) × IsFaultOfFed new f)
  pub working : OnOk answer (new.fault ≡ None)
  pub sticky : IfSome old.fault (λ f. (answer ≡ Err f) × (new ≡ old))
  pub since : IfSome (failed_since old) (λ line. UnlessMemory answer (failed_since new ≡ Some line))
  pub mode : UnlessMemory answer (StaysInMode old.matching.progress new.matching.progress)

-- the status for the result of `Document::finish`
abbrev pub status_of_end : Result Verdict OutOfMemory → Status
status_of_end (Ok verdict) = status.Done
status_of_end (Err e) = status.Memory

-- what is reported to C at the end; unchanged when out of memory
abbrev pub told_at_end : Judgement → Result Verdict OutOfMemory → Judgement
told_at_end old (Ok verdict) = judgement_of verdict
told_at_end old (Err e) = old

-- `Document::finish` may return this
pub record IsEndOf (document : Judging) (answer : Result Verdict OutOfMemory) : Type 0 where
  pub verdict : IfOk answer (λ v. (s : Schema) (bytes : List ℕ) → Judges document.grammar s → HasBeenFed document bytes
      → IsVerdictOn s bytes v)
  pub verdict_with : IfOk answer (λ v. (types : TypeSet) (s : Schema) (bytes : List ℕ) → JudgesWith types document.grammar s
      → HasBeenFed document bytes → IsVerdictOnWith types s bytes v)
  pub sticky : IfSome document.fault (λ f. answer ≡ told_by f)
  pub since : IfSome (failed_since document) (λ line. IfOk answer (λ v. IsMalformedVerdict v ⊎ (v ≡ Invalid line)))

-- the document has ended, the call returned this number, and this was reported to C
pub record HasEnded (document : Judging) (number : ℤ) (old new : Judgement) : Type 0 where
  pub answer : Result Verdict OutOfMemory
  pub is : IsEndOf document answer
  pub number_is : number ≡ code_of (status_of_end answer)
  pub told : new ≡ told_at_end old answer

-- The line after which no continuation is valid, or 0 if it is not known. If it is known, it is one of the lines that were
-- fed, and no document with the same lines up to it is valid. If it is not, and there is no fault, no document with the
-- same ended lines has, at one of these, the event of a start with a name that no element of the simple form may have.
pub record IsInvalidSince (line : ℕ) (document : Judging) : Type 0 where
  pub value : line ≡ unwrap_or (failed_since document) 0
  pub hopeless : IfSome (failed_since document) (λ since. (s : Schema) (bytes : List ℕ) → Judges document.grammar s → HasBeenFed document bytes
      → IsHopelessFrom (IsValidBySchema s) bytes since)
  pub hopeless_with : IfSome (failed_since document) (λ since. (types : TypeSet) (s : Schema) (bytes : List ℕ) → JudgesWith types document.grammar s
      → HasBeenFed document bytes → IsHopelessFrom (IsValidBySchemaWith types s) bytes since)
  pub known : failed_since document ≡ None → document.fault ≡ None → (types : TypeSet) (s : Schema) (bytes : List ℕ) (n : ℕ)
      → JudgesWith types document.grammar s → HasBeenFed document bytes → HaveEnded bytes n → KnowsStarts (IsUnknownIn s) bytes n

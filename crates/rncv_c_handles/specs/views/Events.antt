-- What the calls on a document of events return in numbers, given what the functions of `EventDocument` return.
use Rattle.std.specs.Prelude.{◌≡◌, ℕ, ℤ, pos, List, [], ◌∷◌, ◌++◌, false, Some, None, Result, Ok, Err, IfErr, IfOk, IfSome, IsErrOf, OnOk, unwrap_or}
use Rattle.rng_model.specs.schema.Schema.{Schema}
use Rattle.rng_model.specs.documents.PyxTrees.{Event, EventKind}
use Rattle.rng_model.specs.declared.outcome.Outcome.{Outcome}
use Rattle.rng_model.specs.declared.outcome.Outcome.TheVariants as outcomes
use Rattle.rng_model.specs.declared.type_set.TypeSet.{TypeSet}
use Rattle.rng_model.specs.xsd.SchemasWith.{IsValidBySchemaWith}
use Rattle.rncv_model.specs.answers.Verdict.{IsUnknownIn}
use Rattle.rng_deriv_events.specs.views.Positions.{KeepsTag, StaysInMode}
use Rattle.rncv_validator.specs.views.Validators.{JudgesWith}
use Rattle.element_events.specs.views.Told.{UnlessOutOfMemory, call}
use Rattle.element_events.specs.declared.fault.EventFault.{EventFault}
use Rattle.element_events.specs.declared.fault.EventFault.TheVariants as faults
use Rattle.rncv_events.specs.Answers.{AreHopelessFrom, IsAnswerOn, IsResult, HaveKnownStarts}
use Rattle.rncv_events.specs.views.Told as told
use Rattle.rncv_events.specs.views.Documents.{failed_since}
use Rattle.rncv_events.specs.views.Told.{Judging, Takes}
use Rattle.rncv_c_values.specs.views.Codes.{code_of}
use Rattle.rncv_c_values.specs.declared.status.Status.{Status}
use Rattle.rncv_c_values.specs.declared.status.Status.TheVariants as status
use Rattle.rncv_c_values.specs.declared.told.Judgement.{Judgement}

-- no call was taken yet, there is no fault, and no start is kept
pub record HasBegun (document : Judging) : Type 0 where
  pub taken : told.HasTaken document []
  pub mode : KeepsTag false document.matching.progress
  pub working : document.fault ≡ None

-- the status for the result of a call that tells a part of the document
abbrev pub status_of_call : Result Unit EventFault → Status
status_of_call (Ok x) = status.Done
status_of_call (Err faults.NotWellFormed) = status.Malformed
status_of_call (Err faults.Memory) = status.Memory

-- This call was told, and this was answered: as `EventDocument` promises, if what the caller passed are texts. If they are
-- not, no document has the call, and it fails.
pub record HasAnswered (AreTexts : Type 0) (c : Event) (answer : Result Unit EventFault) (old new : Judging) : Type 0 where
  pub grammar : new.grammar ≡ old.grammar
  pub taken : AreTexts → UnlessOutOfMemory answer (Takes old new c)
  pub result_is : AreTexts → (calls : List Event) → told.HasTaken old calls → IsResult answer (calls ++ c ∷ [])
  pub texts : OnOk answer AreTexts
  pub fault : IfErr answer (λ f. new.fault ≡ Some f)
  pub working : OnOk answer (new.fault ≡ None)
  pub sticky : IfSome old.fault (λ f. (answer ≡ Err f) × (new ≡ old))
  pub since : IfSome (failed_since old) (λ place. UnlessOutOfMemory answer (failed_since new ≡ Some place))
  pub mode : UnlessOutOfMemory answer (StaysInMode old.matching.progress new.matching.progress)

-- the call returned this number
pub record HasTaken (AreTexts : Type 0) (c : Event) (number : ℤ) (old new : Judging) : Type 0 where
  pub answer : Result Unit EventFault
  pub number_is : number ≡ code_of (status_of_call answer)
  pub answered : HasAnswered AreTexts c answer old new

-- the same, for a call that has no place, and makes none known
pub record HasTakenAnywhere (IsText : Type 0) (kind : EventKind) (number : ℤ) (old new : Judging) : Type 0 where
  pub answer : Result Unit EventFault
  pub number_is : number ≡ code_of (status_of_call answer)
  pub answered : (place : ℕ) → HasAnswered IsText (call place kind) answer old new
  pub same : failed_since new ≡ failed_since old

-- the status for the result of `EventDocument::finish`
abbrev pub status_of_end : Result Outcome EventFault → Status
status_of_end (Ok outcome) = status.Done
status_of_end (Err faults.NotWellFormed) = status.Done
status_of_end (Err faults.Memory) = status.Memory

-- an outcome in numbers: 0 for valid, 1 for invalid, with a place
abbrev pub judgement_of : Outcome → Judgement
judgement_of outcomes.Valid = record { kind = pos 0; clause = pos 0; line = 0 }
judgement_of (outcomes.Invalid place) = record { kind = pos 1; clause = pos 0; line = place }

-- what is reported to C at the end: 2 for calls that are no document; unchanged when out of memory
abbrev pub told_at_end : Judgement → Result Outcome EventFault → Judgement
told_at_end old (Ok outcome) = judgement_of outcome
told_at_end old (Err faults.NotWellFormed) = record { kind = pos 2; clause = pos 0; line = 0 }
told_at_end old (Err faults.Memory) = old

-- `EventDocument::finish` may return this
pub record IsEndOf (document : Judging) (answer : Result Outcome EventFault) : Type 0 where
  pub is : (types : TypeSet) (s : Schema) (calls : List Event) → JudgesWith types document.grammar s → told.HasTaken document calls
      → IsAnswerOn (IsValidBySchemaWith types s) (IsUnknownIn s) calls answer
  pub memory : IsErrOf answer faults.Memory → document.fault ≡ Some faults.Memory
  pub sticky : IfSome document.fault (λ f. answer ≡ Err f)
  pub since : IfSome (failed_since document) (λ place. IfOk answer (λ o. o ≡ outcomes.Invalid place))

-- the document has ended, the call returned this number, and this was reported to C
pub record HasEnded (document : Judging) (number : ℤ) (old new : Judgement) : Type 0 where
  pub answer : Result Outcome EventFault
  pub is : IsEndOf document answer
  pub number_is : number ≡ code_of (status_of_end answer)
  pub told_is : new ≡ told_at_end old answer

-- The place after which no continuation is valid, or 0 if it is not known. If it is known, and there is no fault, it is that
-- of one of the calls, and no document that begins with the calls up to it is valid. If it is not, no call starts an element
-- with a name that no element of the simple form may have.
pub record IsInvalidSince (place : ℕ) (document : Judging) : Type 0 where
  pub value : place ≡ unwrap_or (failed_since document) 0
  pub hopeless : IfSome (failed_since document) (λ since. document.fault ≡ None → (types : TypeSet) (s : Schema) (calls : List Event)
      → JudgesWith types document.grammar s → told.HasTaken document calls → AreHopelessFrom (IsValidBySchemaWith types s) (IsUnknownIn s) calls since)
  pub known : failed_since document ≡ None → document.fault ≡ None → (types : TypeSet) (s : Schema) (calls : List Event)
      → JudgesWith types document.grammar s → told.HasTaken document calls → HaveKnownStarts (IsUnknownIn s) calls

-- What calls of a document answer.
use Rattle.std.specs.Prelude.{⊤, ◌≡◌, ◌≤◌, ◌<◌, ℕ, true, List, ◌++◌, All, length, take, Option, Result, Ok, Err}
use Rattle.rng_model.specs.matching.Document.{Item}
use Rattle.rng_model.specs.names.Names.{Name}
use Rattle.rng_model.specs.documents.Lines.{lines}
use Rattle.rng_model.specs.documents.PyxClauses.{IsFirstFault}
use Rattle.rng_model.specs.documents.PyxTrees.{IsPyxDocument, Placed, events_of}
use Rattle.rng_model.specs.declared.fault.OutOfMemory.{OutOfMemory}
use Rattle.rng_deriv_events.specs.views.Positions.{failed_line}
use Rattle.rncv_model.specs.answers.Verdict.{CannotBeValid, StartsUnknown}
use Rattle.rncv_model.specs.declared.verdict.Verdict.{Verdict}
use Rattle.rncv_model.specs.declared.verdict.Verdict.TheVariants.{Malformed}
use Rattle.rncv_validator.specs.declared.fault.DocumentFault.{DocumentFault}
use Rattle.rncv_validator.specs.declared.fault.DocumentFault.TheVariants as faults
use Rattle.rncv_validator.specs.views.FedDocuments.{HasBeenFed, Judging}

-- This is one of the lines of the bytes. However the bytes go on, no document with the same lines up to it is valid.
pub record IsHopelessFrom (IsValid : Item → Type 0) (bytes : List ℕ) (n : ℕ) : Type 0 where
  pub not_before : 1 ≤ n
  pub within : n ≤ length (lines bytes)
  pub cannot : (rest : List ℕ) → CannotBeValid IsValid (bytes ++ rest) n

-- a line feed ends each of the first n lines of the bytes
pub record HaveEnded (bytes : List ℕ) (n : ℕ) : Type 0 where
  pub within : n ≤ length (lines bytes)
  pub ended : All (λ l. l.ended ≡ true) (take n (lines bytes))

-- at the first n lines of a document with the same first n lines, there is no start of an element with a name that no
-- element may have
abbrev pub KnowsStarts : (Name → Type 0) → List ℕ → ℕ → Type 0
KnowsStarts IsUnknown bytes n = (other : List ℕ) (document : Placed) → take n (lines other) ≡ take n (lines bytes) → IsPyxDocument other document
    → All (λ e. StartsUnknown IsUnknown e.kind → n < e.line) (events_of document)

-- the line after which no continuation is valid, if it is known
abbrev pub failed_since : Judging → Option ℕ
failed_since d = failed_line d.matching.progress

-- a claim that holds unless the call ran out of memory
abbrev pub UnlessMemory : {A : Type 0} → Result A DocumentFault → Type 0 → Type 0
UnlessMemory (Ok x) P = P
UnlessMemory (Err faults.Memory) P = ⊤
UnlessMemory (Err (faults.Malformed clause line)) P = P

-- the fault is the first fault of all bytes that begin with those that were fed; out of memory claims nothing
abbrev pub IsFaultOfFed : Judging → DocumentFault → Type 0
IsFaultOfFed d faults.Memory = ⊤
IsFaultOfFed d (faults.Malformed clause line) = (bytes rest : List ℕ) → HasBeenFed d bytes
    → IsFirstFault (lines (bytes ++ rest)) (record { clause = clause; line = line })

-- the verdict that reports a fault
abbrev pub told_by : DocumentFault → Result Verdict OutOfMemory
told_by (faults.Malformed clause line) = Ok (Malformed clause line)
told_by faults.Memory = Err (record {})

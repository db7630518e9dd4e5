-- What is read of a document, and the verdict on it.
use Rattle.std.specs.Prelude.{ℕ, List, [], Option, Result, Ok, Err}
use Rattle.rng_model.specs.documents.Lines.{lines}
use Rattle.rng_model.specs.documents.PyxClauses.{IsFirstFault}
use Rattle.rncv_model.specs.answers.Verdict.{IsRead}
use Rattle.rncv_model.specs.declared.run_fault.RunFault.{RunFault}
use Rattle.rncv_model.specs.declared.run_fault.RunFault.TheVariants as running
use Rattle.rncv_model.specs.declared.verdict.Verdict.{Verdict}
use Rattle.rncv_model.specs.declared.verdict.Verdict.TheVariants.{Malformed}
use Rattle.rncv_validator.specs.declared.fault.DocumentFault.{DocumentFault}
use Rattle.rncv_validator.specs.declared.fault.DocumentFault.TheVariants as document
use Rattle.rncv_run.specs.declared.document_input.InputFault.{InputFault}
use Rattle.rncv_run.specs.declared.document_input.InputFault.TheVariants as faults
use Rattle.rncv_run.specs.declared.document_input.JudgeFault.{JudgeFault}
use Rattle.rncv_run.specs.declared.document_input.JudgeFault.TheVariants as judging

-- everything that was left is read, and fed
pub record IsFedWhole (IsFed : List ℕ → Type 0) (input_old input_new : Option (List ℕ)) : Type 0 where
  pub bytes : List ℕ
  pub read : IsRead input_old input_new bytes []
  pub fed : IsFed bytes

-- this is the first fault of the bytes that were left, and a beginning of them is read; a fault of the device and out
-- of memory claim nothing about them
abbrev pub IsFaultOfInput : Option (List ℕ) → Option (List ℕ) → InputFault → Type 0
IsFaultOfInput input_old input_new faults.Read = Unit {0}
IsFaultOfInput input_old input_new (faults.Document document.Memory) = Unit {0}
IsFaultOfInput input_old input_new (faults.Document (document.Malformed clause line)) =
    (bytes rest : List ℕ) × IsRead input_old input_new bytes rest × IsFirstFault (lines bytes) (record { clause = clause; line = line })

-- the verdict that reports a fault of a document; there is none for out of memory
abbrev pub malformed_by : DocumentFault → Result Verdict JudgeFault
malformed_by document.Memory = Err judging.Memory
malformed_by (document.Malformed clause line) = Ok (Malformed clause line)

abbrev pub fault_of_judging : JudgeFault → RunFault
fault_of_judging judging.Read = running.Read
fault_of_judging judging.Memory = running.Memory

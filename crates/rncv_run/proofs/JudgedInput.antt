-- The verdict on what an input had left.
use Rattle.std.proofs.Common.{◌≡◌, ℕ, List, [], Option, Result, Ok, Err, IfOk, IsErrOf, OnOk, inl, inr, refl, subst, sym}
use Rattle.rng_model.specs.matching.SchemaMatching.{IsValidBySchema}
use Rattle.rng_model.specs.schema.Schema.{Schema}
use Rattle.rng_model.specs.simple.Table.{Table}
use Rattle.rncv_model.specs.answers.Verdict.{IsUnknownIn}
use Rattle.rncv_model.specs.answers.VerdictWith.{IsVerdictOn}
use Rattle.rncv_model.specs.answers.Run.{IsJudged}
use Rattle.rncv_model.specs.declared.verdict.Verdict.{Verdict}
use Rattle.rncv_model.specs.declared.verdict.Verdict.TheVariants.{Malformed}
use Rattle.rncv_validator.specs.declared.fault.DocumentFault.{DocumentFault}
use Rattle.rncv_validator.specs.declared.fault.DocumentFault.TheVariants as document
use Rattle.rncv_validator.specs.views.FedDocuments.{HasBeenFed, Judging}
use Rattle.rncv_validator.specs.views.Validators.{Judges}
use Rattle.rncv_validator.proofs.DocumentVerdict.{one_verdict}
use Rattle.rncv_run.specs.views.DocumentInput.{IsFaultOfInput, IsFedWhole, malformed_by}
use Rattle.rncv_run.specs.declared.document_input.InputFault.TheVariants as faults
use Rattle.rncv_run.specs.declared.document_input.JudgeFault.{JudgeFault}
use Rattle.rncv_run.specs.declared.document_input.JudgeFault.TheVariants as judging

pub in_each_case : {A E : Type 0} (r : Result A E) (P : Type 0) → P → OnOk r P
in_each_case (Ok x) P p = p
in_each_case (Err e) P p = tt

-- a broken clause is not a failure of the input
pub no_failed_read : (f : DocumentFault) → IsErrOf (malformed_by f) judging.Read → ⊥
no_failed_read document.Memory e = cc
no_failed_read (document.Malformed clause line) e = cc

module _ (g : Table) (old new : Option (List ℕ)) where
  by_fault : (f : DocumentFault) → IsFaultOfInput old new (faults.Document f) → IfOk (malformed_by f) (λ v. (s : Schema) → Judges g s → IsJudged s v old new)
  by_fault document.Memory fault = tt
  by_fault (document.Malformed clause line) fault = λ s judges. record {
    document = fault.0;
    rest = fault.1;
    read = fault.2;
    to_end = inr tt;
    verdict_is = fault.3;
    only = λ w is. one_verdict (IsValidBySchema s) (IsUnknownIn s) fault.0 (Malformed clause line) w fault.3 is;
  }

  -- the verdict of a fault
  pub fault_judged : (f : DocumentFault) (r : Result Verdict JudgeFault) → r ≡ malformed_by f → IsFaultOfInput old new (faults.Document f)
      → IfOk r (λ v. (s : Schema) → Judges g s → IsJudged s v old new)
  fault_judged f r e fault =
      subst (λ (r : Result Verdict JudgeFault). IfOk r (λ v. (s : Schema) → Judges g s → IsJudged s v old new)) (sym e) (by_fault f fault)

  -- the verdict on everything that was left
  pub whole_judged : (d : Judging) → d.grammar ≡ g → IsFedWhole (HasBeenFed d) old new → (v : Verdict)
      → ((s : Schema) (bytes : List ℕ) → Judges d.grammar s → HasBeenFed d bytes → IsVerdictOn s bytes v) → (s : Schema) → Judges g s → IsJudged s v old new
  whole_judged d same whole v is s judges =
      let on = is s whole.bytes (subst (λ t. Judges t s) (sym same) judges) whole.fed in
      record { document = whole.bytes; rest = []; read = whole.read; to_end = inl refl; verdict_is = on.is; only = on.only }

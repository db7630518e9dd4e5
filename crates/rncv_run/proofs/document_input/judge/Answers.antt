use Rattle.std.proofs.Common.{ℕ, List, Result, Err, IfOk, IsErrOf, ap, subst, ◌∙◌}
use Rattle.rng_model.specs.declared.fault.OutOfMemory.{OutOfMemory}
use Rattle.rng_model.specs.schema.Schema.{Schema}
use Rattle.rncv_model.specs.answers.VerdictWith.{IsVerdictOn}
use Rattle.rncv_model.specs.declared.verdict.Verdict.{Verdict}
use Rattle.rncv_validator.specs.views.FedDocuments.{HasBeenFed, Judging}
use Rattle.rncv_validator.specs.views.Validators.{Judges}
use Rattle.rncv_run.specs.views.DocumentInput.{IsFaultOfInput}
use Rattle.rncv_run.specs.declared.document_input.JudgeFault.TheVariants as judging
use Rattle.rncv_run.proofs.JudgedInput.{fault_judged, in_each_case, no_failed_read, whole_judged}
use Rattle.rncv_run.proofs.document_input.judge.Goals as goal

pub returns-in-Err-Document-clause-judged : goal.returns-in-Err-Document-clause-judged
returns-in-Err-Document-clause-judged g c = fault_judged c.args.validator _ _ c.in-Err-Document.fault c.malformed.result c.malformed.ensures
    (subst (IsFaultOfInput _ _) c.in-Err-Document.field-0-is c.in-Err-Document.ensures.fault)

pub returns-in-Err-Document-clause-calm : goal.returns-in-Err-Document-clause-calm
returns-in-Err-Document-clause-calm g c =
    in_each_case c.malformed.result _ (c.in-Err-Document.ensures.document c.in-Err-Document.fault (ap Err c.in-Err-Document.field-0-is))

pub returns-in-Err-Document-clause-read : goal.returns-in-Err-Document-clause-read
returns-in-Err-Document-clause-read g c = λ failed. absurd (no_failed_read c.in-Err-Document.fault
    (subst (λ r. IsErrOf r judging.Read) c.malformed.ensures failed))

pub returns-clause-judged : goal.returns-clause-judged
returns-clause-judged g c =
    let d : Judging = c.feed_whole.new.document in
    let told = subst (λ (r : Result Verdict OutOfMemory). IfOk r (λ v. (s : Schema) (bytes : List ℕ) → Judges d.grammar s → HasBeenFed d bytes → IsVerdictOn s bytes v))
    c.in_ok-verdict.was c.finish-validator.ensures.verdict in
    whole_judged c.args.validator _ _ d (c.in-Ok.ensures.grammar ∙ c.document-document.ensures.grammar) c.in-Ok.ensures.fed c.in_ok-verdict.field-0 told

use Rattle.std.proofs.Common.{◌≡◌, ◌⊎◌, ◌∙◌, Ok, Result, IfOk, IfSome, subst, sym}
use Rattle.pyx.specs.views.Calls.{Ends, UnlessOutOfMemory}
use Rattle.rng_model.specs.declared.fault.OutOfMemory.{OutOfMemory}
use Rattle.rng_model.specs.documents.EventViews.{Hands}
use Rattle.rncv_model.specs.answers.Verdict.{IsMalformedVerdict}
use Rattle.rncv_model.specs.declared.verdict.Verdict.{Verdict}
use Rattle.rncv_model.specs.declared.verdict.Verdict.TheVariants.{Invalid}
use Rattle.rng_deriv.specs.views.Matchers.{HasGoneOn}
use Rattle.rncv_validator.specs.views.Documents.{failed_since}
use Rattle.rncv_validator.specs.views.FedDocuments.{IsFaultOfReader, Judging}
use Rattle.rncv_validator.proofs.FedDocuments.{HoldsWith, ended_grammar, ended_since, ended_verdict, fault_there, fault_verdict, holds_in_profile}
use Rattle.rncv_validator.proofs.FedDocuments.{resumed, state_kept}
use Rattle.rncv_validator.proofs.document.Document.finish.Goals as goal

pub of_parts-requires-in-Ok-clause-state : goal.of_parts-requires-in-Ok-clause-state
of_parts-requires-in-Ok-clause-state c =
    let d = c.self.inside in
    let old = c.resume-matcher.result in
    let new = c.finish-ended.new.events in
    state_kept d.grammar.value c.deref.result.now c.in-Some.state c.into_state.result old new c.deref.ensures c.resume-matcher.ensures
    (ended_grammar d.reader old new c.finish-ended.result c.outcome.result c.in-Ok.verdict c.finish-ended.ensures.document
    (sym c.verdict.ensures ∙ c.in-Ok.is)) c.into_state.ensures.state

pub returns-in-Ok-clause-verdict_with : goal.returns-in-Ok-clause-verdict_with
returns-in-Ok-clause-verdict_with c =
    let d = c.self.inside in
    let old = c.resume-matcher.result in
    let new = c.finish-ended.new.events in
    let there = resumed d.grammar.value c.deref.result.now d.state c.in-Some.state old d.reader d.fault c.args.self c.self.view_is c.in-Some.is c.deref.ensures
    c.resume-matcher.ensures in
    let ends = subst (λ (j : Judging). UnlessOutOfMemory c.finish-ended.result (Ends (Hands HasGoneOn old new) j.reader c.finish-ended.result)) c.self.view_is
    c.finish-ended.ensures.document in
    subst (λ (r : Result Verdict OutOfMemory). IfOk r (HoldsWith c.args.self)) (sym c.verdict.ensures ∙ c.in-Ok.is)
    (ended_verdict c.args.self old new there c.finish-ended.result c.outcome.result ends c.outcome.ensures.outcome)

pub returns-in-Ok-clause-verdict : goal.returns-in-Ok-clause-verdict
returns-in-Ok-clause-verdict c = holds_in_profile c.args.self (Ok c.in-Ok.verdict) (returns-in-Ok-clause-verdict_with c)

pub returns-in-Ok-clause-since : goal.returns-in-Ok-clause-since
returns-in-Ok-clause-since c =
    let d = c.self.inside in
    let old = c.resume-matcher.result in
    let new = c.finish-ended.new.events in
    let there = resumed d.grammar.value c.deref.result.now d.state c.in-Some.state old d.reader d.fault c.args.self c.self.view_is c.in-Some.is c.deref.ensures
    c.resume-matcher.ensures in
    let ends = subst (λ (j : Judging). UnlessOutOfMemory c.finish-ended.result (Ends (Hands HasGoneOn old new) j.reader c.finish-ended.result)) c.self.view_is
    c.finish-ended.ensures.document in
    subst (λ (r : Result Verdict OutOfMemory). IfSome (failed_since c.args.self) (λ line. IfOk r (λ v. IsMalformedVerdict v ⊎ (v ≡ Invalid line))))
    (sym c.verdict.ensures ∙ c.in-Ok.is)
    (ended_since c.args.self old new there c.finish-ended.result c.outcome.result ends c.outcome.ensures.failed)

pub returns-in-Some-fault-clause-verdict_with : goal.returns-in-Some-fault-clause-verdict_with
returns-in-Some-fault-clause-verdict_with c =
    let d = c.self.inside in
    let f = c.in-Some-fault.fault in
    let of = subst (λ (j : Judging). IsFaultOfReader j.reader f) c.self.view_is
    (fault_there d.reader d.state d.fault f c.in-Some-fault.is c.self.invariant.2) in
    subst (λ (r : Result Verdict OutOfMemory). IfOk r (HoldsWith c.args.self)) (sym c.told.ensures) (fault_verdict c.args.self f of)

pub returns-in-Some-fault-clause-verdict : goal.returns-in-Some-fault-clause-verdict
returns-in-Some-fault-clause-verdict c = holds_in_profile c.args.self c.told.result (returns-in-Some-fault-clause-verdict_with c)

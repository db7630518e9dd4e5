use Rattle.std.proofs.Common.{◌≡◌, IfOk, IfSome, IsErrOf, List, None, Result, Some, rules, subst, sym}
use Rattle.rng_model.specs.declared.outcome.Outcome.{Outcome}
use Rattle.rng_model.specs.declared.outcome.Outcome.TheVariants as outcome
use Rattle.rng_model.specs.documents.PyxTrees.{Event}
use Rattle.rng_model.specs.xsd.SchemasWith.{IsValidBySchemaWith}
use Rattle.rncv_model.specs.answers.Verdict.{IsUnknownIn}
use Rattle.element_events.specs.views.Kept.{IsVerdict, Stands}
use Rattle.element_events.specs.declared.fault.EventFault.{EventFault}
use Rattle.element_events.specs.declared.fault.EventFault.TheVariants as faults
use Rattle.rncv_validator.specs.views.FedDocuments.{HasNotRunOut}
use Rattle.rncv_validator.proofs.FedDocuments.{state_there}
use Rattle.rncv_events.specs.Answers.{IsAnswerOn}
use Rattle.rncv_events.specs.views.Documents.{failed_since}
use Rattle.rncv_events.specs.views.Told.{IsFaultOfCalls, Judging}
use Rattle.rncv_events.proofs.SettledCalls.{calls_work, fault_of_calls, not_run_out, resumed_there}
use Rattle.rncv_events.proofs.ToldDocuments.{ended_answer, ended_since, fault_answer, not_lost}
use Rattle.rncv_events.proofs.document.EventDocument.finish.Goals as goal

pub returns-clause-answer : goal.returns-clause-answer
returns-clause-answer c = λ types s calls judges taken.
    let d = c.self.inside in
    let old = c.resume-matcher.result in
    let there = resumed_there d.grammar.value c.deref.result.now d.state c.in-Some.state old d.calls d.fault c.args.self c.self.view_is c.in-Some.is c.deref.ensures
    c.resume-matcher.ensures in
    let works = subst (λ (j : Judging). j.calls.fault ≡ None) c.self.view_is (calls_work d.calls d.state d.fault (search rules) c.self.invariant.2) in
    let ends = subst (λ (j : Judging). (calls sent : List Event) → Stands j.calls calls sent → IsVerdict c.finish.result calls sent) c.self.view_is
    c.finish.ensures.document in
    subst (λ (r : Result Outcome EventFault). IsAnswerOn (IsValidBySchemaWith types s) (IsUnknownIn s) calls r) (sym c.answer_at_end-answer.ensures)
    (ended_answer c.args.self types s judges calls taken old there works c.finish.result c.outcome.result (ends calls taken.events taken.stands)
    c.outcome.ensures.outcome)

pub returns-clause-since : goal.returns-clause-since
returns-clause-since c =
    let d = c.self.inside in
    let old = c.resume-matcher.result in
    let there = resumed_there d.grammar.value c.deref.result.now d.state c.in-Some.state old d.calls d.fault c.args.self c.self.view_is c.in-Some.is c.deref.ensures
    c.resume-matcher.ensures in
    subst (λ (r : Result Outcome EventFault). IfSome (failed_since c.args.self) (λ place. IfOk r (λ told. told ≡ outcome.Invalid place)))
    (sym c.answer_at_end-answer.ensures) (ended_since c.args.self old there c.finish.result c.outcome.result c.outcome.ensures.failed)

pub returns-clause-memory : goal.returns-clause-memory
returns-clause-memory c = λ failed.
    let d = c.self.inside in
    absurd (not_lost d.calls c.resume-matcher.result c.finish.result c.outcome.result (calls_work d.calls d.state d.fault (search rules) c.self.invariant.2)
    c.finish.ensures.memory c.outcome.ensures.lost
    (not_run_out d.grammar.value c.deref.result.now c.in-Some.state c.resume-matcher.result c.deref.ensures c.resume-matcher.ensures
    (state_there d.state c.in-Some.state (HasNotRunOut d.grammar.value) c.in-Some.is c.self.invariant.3))
    (subst (λ (r : Result Outcome EventFault). IsErrOf r faults.Memory) c.answer_at_end-answer.ensures failed))

pub returns-in-Some-fault-clause-answer : goal.returns-in-Some-fault-clause-answer
returns-in-Some-fault-clause-answer c = λ types s calls judges taken.
    let d = c.self.inside in
    let f = c.in-Some-fault.fault in
    let of = subst (λ (j : Judging). IsFaultOfCalls j.calls (Some f)) c.self.view_is (fault_of_calls d.calls d.state d.fault f c.in-Some-fault.is c.self.invariant.2) in
    fault_answer (IsValidBySchemaWith types s) (IsUnknownIn s) c.args.self.calls f of calls taken.events taken.stands

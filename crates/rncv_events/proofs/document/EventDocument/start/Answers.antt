use Rattle.std.proofs.Common.{◌≡◌, [], ◌∷◌, ◌++◌, IfErr, IfSome, List, None, OnOk, Result, Some, ap, rules, subst, sym}
use Rattle.rng_model.specs.documents.PyxTrees.{Event}
use Rattle.element_events.specs.declared.fault.EventFault.{EventFault}
use Rattle.element_events.specs.views.Told.{UnlessOutOfMemory, call, start_told}
use Rattle.rng_deriv_events.specs.views.Positions.{StaysInMode}
use Rattle.rncv_validator.specs.views.FedDocuments.{HasNotRunOut, matching_of}
use Rattle.rncv_validator.proofs.FedDocuments.{state_there}
use Rattle.rncv_events.specs.Answers.{IsResult}
use Rattle.rncv_events.specs.views.Leading.{LeadsOn}
use Rattle.rncv_events.specs.views.Documents.{failed_since}
use Rattle.rncv_events.specs.views.Told.{HasTaken, IsFaultOfCalls, Judging, Takes}
use Rattle.rncv_events.proofs.SettledCalls.{fault_of_calls, fault_settled, fault_told, held_settled, kept_settled, may_pass, mode_settled, none_told, passed_settled, result_is, resumed_there, since_settled}
use Rattle.rncv_events.proofs.SettledCalls.{state_settled, stuck_result, stuck_taken, taken_settled}
use Rattle.rncv_events.proofs.document.EventDocument.start.Goals as goal

pub returns-in-Some-clause-taken : goal.returns-in-Some-clause-taken
returns-in-Some-clause-taken c =
    let d = c.self.inside in
    stuck_taken c.args.self.now c.in-Some.fault
    (subst (λ (j : Judging). IsFaultOfCalls j.calls (Some c.in-Some.fault)) c.self.view_is (fault_of_calls d.calls d.state d.fault c.in-Some.fault c.in-Some.is c.self.invariant.2))
    (call c.args.place (start_told c.args.name c.args.attributes.now))

pub returns-in-Some-clause-answer : goal.returns-in-Some-clause-answer
returns-in-Some-clause-answer c =
    let d = c.self.inside in
    stuck_result c.args.self.now c.in-Some.fault
    (subst (λ (j : Judging). IsFaultOfCalls j.calls (Some c.in-Some.fault)) c.self.view_is (fault_of_calls d.calls d.state d.fault c.in-Some.fault c.in-Some.is c.self.invariant.2))
    (call c.args.place (start_told c.args.name c.args.attributes.now))

pub invariant_of-self : goal.invariant_of-self
invariant_of-self c =
    let d = c.self.inside in
    let g = d.grammar.value in
    let s = c.in-Some-take.state in
    let old = c.resume-matcher.result in
    let new = c.tell_start-answer.new.matcher in
    let k = c.tell_start-answer.new.calls in
    let r = c.tell_start-answer.result in
    let place = c.settle.new.place in
    let fault = c.settle.new.fault in
    let settled = c.settle.ensures.settled in
    let longer = c.tell_start-answer.ensures.leads in
    let e = (call c.args.place (start_told c.args.name c.args.attributes.now)) in (
      c.self.invariant.0,
      state_settled g c.deref.result.now s old new c.deref.ensures c.resume-matcher.ensures d.calls k e d.fault place fault r longer settled,
      fault_settled g c.deref.result.now s old new c.deref.ensures c.resume-matcher.ensures d.calls k e d.fault place fault r longer settled (search rules)
          c.tell_start-answer.ensures.working c.tell_start-answer.ensures.fault,
      kept_settled g c.deref.result.now s old new c.deref.ensures c.resume-matcher.ensures d.calls k e d.fault place fault r longer settled
          (state_there d.state s (HasNotRunOut g) (search rules) c.self.invariant.3),
      passed_settled r new d.fault place fault k.passed settled c.tell_start-answer.ensures.passed,
      held_settled r new d.fault place fault k.state.text settled c.tell_start-answer.ensures.held,
    )

pub returns-clause-taken : goal.returns-clause-taken
returns-clause-taken c =
    let d = c.self.inside in
    let g = d.grammar.value in
    let s = c.in-Some-take.state in
    let old = c.resume-matcher.result in
    let new = c.tell_start-answer.new.matcher in
    let k = c.tell_start-answer.new.calls in
    let r = c.tell_start-answer.result in
    let place = c.settle.new.place in
    let fault = c.settle.new.fault in
    let e = (call c.args.place (start_told c.args.name c.args.attributes.now)) in
    let there = resumed_there g c.deref.result.now d.state s old d.calls d.fault c.args.self.now c.self.view_is (search rules) c.deref.ensures c.resume-matcher.ensures in
    subst (λ (r : Result Unit EventFault). UnlessOutOfMemory r (Takes c.args.self.now (record { grammar = g; calls = k; matching = matching_of g place; fault = fault }) e))
    (sym c.settle.ensures.same)
    (taken_settled g c.deref.result.now s old new c.deref.ensures c.resume-matcher.ensures d.calls k e d.fault place fault c.args.self.now there
    (ap (λ (j : Judging). j.calls) c.self.view_is) r c.tell_start-answer.ensures.leads c.settle.ensures.settled)

pub returns-clause-since : goal.returns-clause-since
returns-clause-since c =
    let d = c.self.inside in
    let g = d.grammar.value in
    let s = c.in-Some-take.state in
    let old = c.resume-matcher.result in
    let new = c.tell_start-answer.new.matcher in
    let k = c.tell_start-answer.new.calls in
    let r = c.tell_start-answer.result in
    let place = c.settle.new.place in
    let fault = c.settle.new.fault in
    let e = (call c.args.place (start_told c.args.name c.args.attributes.now)) in
    let there = resumed_there g c.deref.result.now d.state s old d.calls d.fault c.args.self.now c.self.view_is (search rules) c.deref.ensures c.resume-matcher.ensures in
    subst (λ (r : Result Unit EventFault). IfSome (failed_since c.args.self.now) (λ at. UnlessOutOfMemory r
    (failed_since (record { grammar = g; calls = k; matching = matching_of g place; fault = fault }) ≡ Some at))) (sym c.settle.ensures.same)
    (since_settled g c.deref.result.now s old new c.deref.ensures c.resume-matcher.ensures d.calls k e d.fault place fault c.args.self.now there
    (ap (λ (j : Judging). j.calls) c.self.view_is) r c.tell_start-answer.ensures.leads c.settle.ensures.settled)

pub returns-clause-mode : goal.returns-clause-mode
returns-clause-mode c =
    let d = c.self.inside in
    let g = d.grammar.value in
    let s = c.in-Some-take.state in
    let old = c.resume-matcher.result in
    let new = c.tell_start-answer.new.matcher in
    let k = c.tell_start-answer.new.calls in
    let r = c.tell_start-answer.result in
    let place = c.settle.new.place in
    let fault = c.settle.new.fault in
    let e = (call c.args.place (start_told c.args.name c.args.attributes.now)) in
    let there = resumed_there g c.deref.result.now d.state s old d.calls d.fault c.args.self.now c.self.view_is (search rules) c.deref.ensures c.resume-matcher.ensures in
    subst (λ (r : Result Unit EventFault). UnlessOutOfMemory r (StaysInMode c.args.self.now.matching.progress (matching_of g place).progress))
    (sym c.settle.ensures.same)
    (mode_settled g c.deref.result.now s old new c.deref.ensures c.resume-matcher.ensures d.calls k e d.fault place fault c.args.self.now there
    (ap (λ (j : Judging). j.calls) c.self.view_is) r c.tell_start-answer.ensures.leads c.settle.ensures.settled)

pub returns-clause-answer : goal.returns-clause-answer
returns-clause-answer c =
    let r = c.tell_start-answer.result in
    let k = c.tell_start-answer.new.calls in
    let old = c.resume-matcher.result in
    let new = c.tell_start-answer.new.matcher in
    let e = (call c.args.place (start_told c.args.name c.args.attributes.now)) in
    let longer = subst (λ (j : Judging). UnlessOutOfMemory r (LeadsOn old new j.calls k e)) c.self.view_is c.tell_start-answer.ensures.leads in
    subst (λ (r : Result Unit EventFault). (calls : List Event) → HasTaken c.args.self.now calls → IsResult r (calls ++ e ∷ [])) (sym c.settle.ensures.same)
    (result_is c.args.self.now k e old new r longer c.tell_start-answer.ensures.begins c.tell_start-answer.ensures.fault)

pub returns-clause-fault : goal.returns-clause-fault
returns-clause-fault c = subst (λ (r : Result Unit EventFault). IfErr r (λ f. c.settle.new.fault ≡ Some f)) (sym c.settle.ensures.same)
    (fault_told c.tell_start-answer.result c.tell_start-answer.new.matcher c.self.inside.fault c.settle.new.place c.settle.new.fault c.settle.ensures.settled)

pub returns-clause-working : goal.returns-clause-working
returns-clause-working c = subst (λ (r : Result Unit EventFault). OnOk r (c.settle.new.fault ≡ None)) (sym c.settle.ensures.same)
    (none_told c.tell_start-answer.result c.tell_start-answer.new.matcher c.self.inside.fault c.settle.new.place c.settle.new.fault c.settle.ensures.settled (search rules))

pub tell_start-answer-requires : goal.tell_start-answer-requires
tell_start-answer-requires c =
    let d = c.self.inside in
    may_pass d.calls.passed d.state d.fault c.deref.result.now c.in-Some-take.state c.resume-matcher.result (search rules) (search rules) c.resume-matcher.ensures
    c.self.invariant.4

use Rattle.std.proofs.Common.{Err, Ok, Some, ap, rules, subst}
use Rattle.rng_model.specs.documents.PyxTrees.{a_string}
use Rattle.element_events.specs.views.Kept.{Adds}
use Rattle.element_events.specs.views.Told.{UnlessOutOfMemory, call}
use Rattle.rncv_validator.specs.views.FedDocuments.{matching_of}
use Rattle.rncv_events.specs.views.Told.{IsFaultOfCalls, Judging}
use Rattle.rncv_events.proofs.SettledCalls.{fault_of_calls, stuck_result, stuck_taken, text_held, text_passed, text_result_is, text_taken, text_takes, text_working}
use Rattle.rncv_events.proofs.document.EventDocument.text.Goals as goal

pub returns-in-Some-clause-taken : goal.returns-in-Some-clause-taken
returns-in-Some-clause-taken c = λ place.
    let d = c.self.inside in
    stuck_taken c.args.self.now c.in-Some.fault
    (subst (λ (j : Judging). IsFaultOfCalls j.calls (Some c.in-Some.fault)) c.self.view_is (fault_of_calls d.calls d.state d.fault c.in-Some.fault c.in-Some.is c.self.invariant.2))
    (call place (a_string c.args.text.now))

pub returns-in-Some-clause-answer : goal.returns-in-Some-clause-answer
returns-in-Some-clause-answer c = λ place.
    let d = c.self.inside in
    stuck_result c.args.self.now c.in-Some.fault
    (subst (λ (j : Judging). IsFaultOfCalls j.calls (Some c.in-Some.fault)) c.self.view_is (fault_of_calls d.calls d.state d.fault c.in-Some.fault c.in-Some.is c.self.invariant.2))
    (call place (a_string c.args.text.now))

pub invariant_of-self : goal.invariant_of-self
invariant_of-self c =
    let d = c.self.inside in (
      c.self.invariant.0,
      c.self.invariant.1,
      text_working d.calls c.tell_text.new.calls d.state d.fault (search rules) c.self.invariant.2 c.in-Ok.ensures.working,
      c.self.invariant.3,
      text_passed c.tests_strings-tests_strings.result d.calls.passed c.tell_text.new.calls.passed d.state c.in-Some-state.state d.fault (search rules) (search rules)
          c.tests_strings-tests_strings.ensures c.self.invariant.4 c.in-Ok.ensures.kept,
      text_held c.tests_strings-tests_strings.result d.calls.state.text c.tell_text.new.calls.state.text d.state c.in-Some-state.state d.fault (search rules)
          (search rules) c.tests_strings-tests_strings.ensures c.self.invariant.5 c.in-Ok.ensures.held,
    )

pub returns-in-Ok-clause-taken : goal.returns-in-Ok-clause-taken
returns-in-Ok-clause-taken c = λ place.
    let d = c.self.inside in
    let g = d.grammar.value in
    let k = c.tell_text.new.calls in
    let e = call place (a_string c.args.text.now) in
    text_takes c.args.self.now (record { grammar = g; calls = k; matching = matching_of g d.state; fault = d.fault }) e (ap (λ (j : Judging). j.grammar) c.self.view_is)
    (ap (λ (j : Judging). j.matching) c.self.view_is)
    (subst (λ (j : Judging). Adds j.calls k e) c.self.view_is (c.in-Ok.ensures.stands place))

pub returns-in-Ok-clause-answer : goal.returns-in-Ok-clause-answer
returns-in-Ok-clause-answer c = λ place.
    let k = c.tell_text.new.calls in
    let e = call place (a_string c.args.text.now) in
    text_result_is c.args.self.now k e (Ok tt) (subst (λ (j : Judging). Adds j.calls k e) c.self.view_is (c.in-Ok.ensures.stands place))
    c.in-Ok.ensures.begins tt

pub returns-in-Err-clause-taken : goal.returns-in-Err-clause-taken
returns-in-Err-clause-taken c = λ place.
    let d = c.self.inside in
    let g = d.grammar.value in
    let k = c.tell_text.new.calls in
    let e = call place (a_string c.args.text.now) in
    text_taken c.args.self.now (record { grammar = g; calls = k; matching = matching_of g d.state; fault = Some c.in-Err.fault }) e
    (ap (λ (j : Judging). j.grammar) c.self.view_is) (ap (λ (j : Judging). j.matching) c.self.view_is) (Err c.in-Err.fault)
    (subst (λ (j : Judging). UnlessOutOfMemory {A = Unit {0}} (Err c.in-Err.fault) (Adds j.calls k e)) c.self.view_is (c.in-Err.ensures.stands place))

pub returns-in-Err-clause-answer : goal.returns-in-Err-clause-answer
returns-in-Err-clause-answer c = λ place.
    let k = c.tell_text.new.calls in
    let e = call place (a_string c.args.text.now) in
    text_result_is c.args.self.now k e (Err c.in-Err.fault)
    (subst (λ (j : Judging). UnlessOutOfMemory {A = Unit {0}} (Err c.in-Err.fault) (Adds j.calls k e)) c.self.view_is (c.in-Err.ensures.stands place))
    tt c.in-Err.ensures.fault

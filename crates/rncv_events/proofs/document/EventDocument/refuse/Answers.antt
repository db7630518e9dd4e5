use Rattle.std.proofs.Common.{◌∙◌, IfSome, Option, Some, ap, refl, rules, subst, sym}
use Rattle.element_events.specs.declared.fault.EventFault.{EventFault}
use Rattle.element_events.specs.declared.fault.EventFault.TheVariants as faults
use Rattle.rncv_validator.specs.views.FedDocuments.{matching_of}
use Rattle.rncv_events.specs.views.Documents.{IsStuck}
use Rattle.rncv_events.specs.views.Told.{IsFaultOfCalls, Judging}
use Rattle.rncv_events.proofs.SettledCalls.{fault_of_calls, refusal_first, refused_taken, stuck, text_fault}
use Rattle.rncv_events.proofs.document.EventDocument.refuse.Goals as goal

pub returns-in-Some-clause-stuck : goal.returns-in-Some-clause-stuck
returns-in-Some-clause-stuck c =
    let d = c.self.inside in
    let f = c.in-Some.fault in
    let of = subst (λ (j : Judging). IsFaultOfCalls j.calls (Some f)) c.self.view_is (fault_of_calls d.calls d.state d.fault f c.in-Some.is c.self.invariant.2) in
    let known = sym (ap (λ (j : Judging). j.fault) c.self.view_is) ∙ c.in-Some.is in
    subst (λ (o : Option EventFault). IfSome o (IsStuck c.args.self.now)) (sym known) (stuck c.args.self.now f of)

pub returns-in-Some-clause-taken : goal.returns-in-Some-clause-taken
returns-in-Some-clause-taken c = λ malformed calls k bad taken.
    let d = c.self.inside in
    let of = fault_of_calls d.calls d.state d.fault faults.NotWellFormed (c.in-Some.is ∙ ap Some malformed) c.self.invariant.2 in
    refused_taken c.args.self.now c.args.self.now refl refl (ap (λ (j : Judging). j.calls.fault) (sym c.self.view_is) ∙ of) calls k bad taken

pub invariant_of-self : goal.invariant_of-self
invariant_of-self c =
    let d = c.self.inside in (
      c.self.invariant.0,
      c.self.invariant.1,
      text_fault d.calls c.refuse-fault.new.self d.state d.fault c.refuse-fault.result (search rules) c.self.invariant.2 c.refuse-fault.ensures.kept,
      c.self.invariant.3,
      tt,
      tt,
    )

pub returns-clause-fault : goal.returns-clause-fault
returns-clause-fault c =
    let d = c.self.inside in
    refusal_first d.calls d.state d.fault c.args.self.now.fault c.args.fault c.refuse-fault.result (search rules) (ap (λ (j : Judging). j.fault) c.self.view_is)
    c.self.invariant.2 c.refuse-fault.ensures.fault

pub returns-clause-taken : goal.returns-clause-taken
returns-clause-taken c = λ malformed calls k bad taken.
    let d = c.self.inside in
    let g = d.grammar.value in
    refused_taken c.args.self.now
    (record { grammar = g; calls = c.refuse-fault.new.self; matching = matching_of g d.state; fault = Some c.refuse-fault.result })
    (ap (λ (j : Judging). j.grammar) c.self.view_is) (ap (λ (j : Judging). j.matching) c.self.view_is)
    (c.refuse-fault.ensures.kept ∙ ap Some malformed) calls k bad taken

use Rattle.std.proofs.Common.{◌≡◌, ◌∙◌, None, ap, rules, subst}
use Rattle.rncv_validator.proofs.FedDocuments.{of_some}
use Rattle.rncv_events.specs.views.Told.{Judging}
use Rattle.rncv_events.proofs.SettledCalls.{calls_work}
use Rattle.rncv_events.proofs.ToldDocuments.{all_known, hopeless_from}
use Rattle.rncv_events.proofs.document.EventDocument.invalid_since.Goals as goal

pub returns-clause-hopeless : goal.returns-clause-hopeless
returns-clause-hopeless c = of_some c.failed_at.result (λ place e calm types s calls judges taken.
    let d = c.self.inside in
    let works = calls_work d.calls d.state d.fault (ap (λ (j : Judging). j.fault) c.self.view_is ∙ calm) c.self.invariant.2 in
    hopeless_from c.args.self.now types s judges calls taken place (search rules) (subst (λ (j : Judging). j.calls.fault ≡ None) c.self.view_is works))

pub returns-clause-known : goal.returns-clause-known
returns-clause-known c = λ none calm types s calls judges taken.
    let d = c.self.inside in
    let works = calls_work d.calls d.state d.fault (ap (λ (j : Judging). j.fault) c.self.view_is ∙ calm) c.self.invariant.2 in
    all_known c.args.self.now types s judges calls taken (search rules) (search rules) (subst (λ (j : Judging). j.calls.fault ≡ None) c.self.view_is works)

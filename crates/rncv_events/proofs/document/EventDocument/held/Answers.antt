use Rattle.std.proofs.Common.{◌∙◌, ap, length}
use Rattle.rng_deriv_events.specs.views.Inputs.{tests_strings}
use Rattle.rncv_events.specs.views.Told.{Judging}
use Rattle.rncv_events.proofs.SettledCalls.{held_nothing}
use Rattle.rncv_events.proofs.document.EventDocument.held.Goals as goal

pub returns-clause-nothing : goal.returns-clause-nothing
returns-clause-nothing c = λ calm untested.
    let d = c.self.inside in
    let none = held_nothing d.grammar.value d.calls d.state d.fault (ap (λ (j : Judging). j.fault) c.self.view_is ∙ calm) c.self.invariant.5
    (ap (λ (j : Judging). tests_strings j.matching.progress) c.self.view_is ∙ untested) in
    c.held.ensures ∙ ap length none

use Rattle.std.proofs.Common.{rules, subst, sym}
use Rattle.rng_deriv_events.specs.views.Positions.{KeepsTag}
use Rattle.rng_deriv.specs.views.Matchers.{Matching}
use Rattle.rncv_events.proofs.SettledCalls.{resumed_there}
use Rattle.rncv_events.proofs.document.EventDocument.may_end.Goals as goal

pub returns-clause-mode : goal.returns-clause-mode
returns-clause-mode c = λ whole keeps.
    let d = c.self.inside in
    let was = resumed_there d.grammar.value c.deref.result.now d.state c.in-Some.state c.resume-matcher.result d.calls d.fault c.args.self.now c.self.view_is
    (search rules) c.deref.ensures c.resume-matcher.ensures in
    subst (λ (m : Matching). KeepsTag whole m.progress) (sym c.into_state.ensures.same)
    (c.in-Ok.ensures.same.mode whole (subst (λ (m : Matching). KeepsTag whole m.progress) (sym was) keeps))

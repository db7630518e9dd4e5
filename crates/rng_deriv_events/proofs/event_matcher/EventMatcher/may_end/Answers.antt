use Rattle.std.proofs.Common.{subst, sym}
use Rattle.rng_deriv_events.specs.views.Positions.{KeepsTag}
use Rattle.rng_deriv_events.proofs.event_matcher.EventMatcher.may_end.Goals as goal

pub returns-in-Ok-clause-mode : goal.returns-in-Ok-clause-mode
returns-in-Ok-clause-mode g c = λ whole keeps.
    c.in-Ok.ensures.mode whole (subst (λ m. KeepsTag whole m.1) (sym c.self.view_is) keeps)

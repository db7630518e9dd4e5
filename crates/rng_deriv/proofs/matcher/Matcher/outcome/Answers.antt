use Rattle.std.proofs.Common.{IfOk, IsErr, OnErr, subst}
use Rattle.rng_model.specs.documents.ElementTrees.{IsElementTree}
use Rattle.rng_model.specs.documents.PyxTrees.{Placed, events_of}
use Rattle.rng_model.specs.matching.Outcomes.{IsOutcome}
use Rattle.rng_deriv.specs.views.Matchers.{HasRunOut, Knows, Matching, judges_by}
use Rattle.rng_deriv.proofs.matcher.Matcher.outcome.Goals as goal

pub returns-clause-outcome : goal.returns-clause-outcome
returns-clause-outcome c = subst (λ (m : Matching). IfOk c.outcome.result (λ o. (d : Placed) → IsElementTree d → Knows m (events_of d)
    → IsOutcome (judges_by m) d o)) c.self.view_is c.outcome.ensures.outcome

pub returns-clause-lost : goal.returns-clause-lost
returns-clause-lost c = subst (λ (m : Matching). OnErr c.outcome.result (HasRunOut m)) c.self.view_is c.outcome.ensures.lost

pub returns-clause-again : goal.returns-clause-again
returns-clause-again c = subst (λ (m : Matching). HasRunOut m → IsErr c.outcome.result) c.self.view_is c.outcome.ensures.again

use Rattle.std.proofs.Common.{List, [], ◌∷◌, ◌++◌, IsErr, OnOk, subst}
use Rattle.rng_model.specs.documents.EventViews.{event_of}
use Rattle.rng_model.specs.documents.PyxTrees.{Event}
use Rattle.rng_deriv.specs.views.Matchers.{HasRunOut, Knows, Matching, matching_of}
use Rattle.rng_deriv.proofs.Matchers.{goes_on, same_grammar, same_judge, stays_failed}
use Rattle.rng_deriv.proofs.matcher.MatcherEvents.event.Goals as goal

pub returns-clause-stands : goal.returns-clause-stands
returns-clause-stands c = goes_on (matching_of c.self.inside.matcher) c.args.self.now c.self.view_is (matching_of c.take.new.self)
    (event_of c.args.event) c.take.result (same_grammar c.take.result c.take.new.self.0.0 c.self.inside.matcher.0.0 c.take.ensures.basis) c.take.ensures.known c.take.ensures.failed
    c.take.ensures.mode c.take.ensures.kept

pub returns-clause-knows : goal.returns-clause-knows
returns-clause-knows c = subst (λ (m : Matching). OnOk c.take.result ((es : List Event) → Knows m es
    → Knows (matching_of c.take.new.self) (es ++ event_of c.args.event ∷ []))) c.self.view_is c.take.ensures.known

pub returns-clause-grammar : goal.returns-clause-grammar
returns-clause-grammar c = same_judge (matching_of c.self.inside.matcher) c.args.self.now c.self.view_is (matching_of c.take.new.self) c.take.result
    (same_grammar c.take.result c.take.new.self.0.0 c.self.inside.matcher.0.0 c.take.ensures.basis)

pub returns-clause-failed : goal.returns-clause-failed
returns-clause-failed c = stays_failed (matching_of c.self.inside.matcher) c.args.self.now c.self.view_is (matching_of c.take.new.self) c.take.result
    c.take.ensures.failed

pub returns-clause-again : goal.returns-clause-again
returns-clause-again c = subst (λ (m : Matching). HasRunOut m → IsErr c.take.result) c.self.view_is c.take.ensures.again

use Rattle.std.proofs.Common.{List, OnOk, subst}
use Rattle.rng_model.specs.documents.PyxTrees.{Event}
use Rattle.rng_deriv.specs.views.Matchers.{Knows, Matching, matching_of}
use Rattle.rng_deriv.proofs.Matchers.{same_grammar, same_judge, stays, stays_failed}
use Rattle.rng_deriv.proofs.matcher.Matcher.may_end.Goals as goal

pub returns-clause-same : goal.returns-clause-same
returns-clause-same c = stays (matching_of c.self.inside.matcher) c.args.self.now c.self.view_is (matching_of c.may_end.new.self) c.may_end.result
    (same_grammar c.may_end.result c.may_end.new.self.0.0 c.self.inside.matcher.0.0 c.may_end.ensures.basis) c.may_end.ensures.known c.may_end.ensures.failed
    c.may_end.ensures.mode c.may_end.ensures.kept

pub returns-clause-knows : goal.returns-clause-knows
returns-clause-knows c = subst (λ (m : Matching). OnOk c.may_end.result ((es : List Event) → Knows m es → Knows (matching_of c.may_end.new.self) es))
    c.self.view_is c.may_end.ensures.known

pub returns-clause-grammar : goal.returns-clause-grammar
returns-clause-grammar c = same_judge (matching_of c.self.inside.matcher) c.args.self.now c.self.view_is (matching_of c.may_end.new.self) c.may_end.result
    (same_grammar c.may_end.result c.may_end.new.self.0.0 c.self.inside.matcher.0.0 c.may_end.ensures.basis)

pub returns-clause-failed : goal.returns-clause-failed
returns-clause-failed c = stays_failed (matching_of c.self.inside.matcher) c.args.self.now c.self.view_is (matching_of c.may_end.new.self) c.may_end.result
    c.may_end.ensures.failed

use Rattle.rng_model.specs.matching.GrammarMatching.{reading_of}
use Rattle.rng_deriv_table.specs.views.Trees.{trees}
use Rattle.rng_deriv.specs.views.Serving.{nodes_of}
use Rattle.rng_deriv.proofs.matcher_state.MatcherState.forget.Goals as goal

pub returns-clause-state : goal.returns-clause-state
returns-clause-state c = λ t state.
    let learned = c.args.self.now.learned.value in
    record { serves = state.serves; inside = c.forget_failure.ensures.inside (reading_of t) learned.keys (trees t (nodes_of learned)) state.inside; reduced = state.reduced }

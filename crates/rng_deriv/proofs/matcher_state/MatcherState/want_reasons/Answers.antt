use Rattle.rng_model.specs.matching.GrammarMatching.{reading_of}
use Rattle.rng_deriv_table.specs.views.Trees.{trees}
use Rattle.rng_deriv.specs.views.Serving.{nodes_of}
use Rattle.rng_deriv.proofs.matcher_state.MatcherState.want_reasons.Goals as goal

pub returns-clause-state : goal.returns-clause-state
returns-clause-state c = λ t state.
    let learned = c.args.self.now.learned.value in
    record { serves = state.serves; inside = c.keep_tag.ensures.inside (reading_of t) learned.keys (trees t (nodes_of learned)) state.inside; reduced = state.reduced }

pub returns-clause-knows : goal.returns-clause-knows
returns-clause-knows c = λ t es known. c.keep_tag.ensures.known (reading_of t) (trees t (nodes_of c.args.self.now.learned.value)) es known

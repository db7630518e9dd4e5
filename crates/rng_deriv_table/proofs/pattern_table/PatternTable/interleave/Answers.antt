use Rattle.std.proofs.Common.{subst, sym}
use Rattle.rng_model.specs.simple.Tree.{interleave, s_joined}
use Rattle.rng_deriv_laws.specs.plain.Taking.{Same}
use Rattle.rng_deriv_laws.proofs.SamePatterns.{interleave_of-same}
use Rattle.rng_deriv_table.specs.views.Trees.{tree_of}
use Rattle.rng_deriv_table.proofs.pattern_table.PatternTable.interleave.Goals as goal

pub returns-in-Some-clause-matches : goal.returns-in-Some-clause-matches
returns-in-Some-clause-matches c = λ t g.
    let p = tree_of t c.args.self.now c.args.first.0 in
    let q = tree_of t c.args.self.now c.args.second.0 in
    subst (λ r. Same g r (s_joined interleave p q)) (sym (c.in-Some.ensures.is interleave t)) (interleave_of-same g p q)

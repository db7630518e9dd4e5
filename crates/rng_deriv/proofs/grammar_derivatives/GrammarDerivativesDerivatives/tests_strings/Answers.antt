use Rattle.std.proofs.Common.{ap}
use Rattle.rng_deriv.specs.views.Serving.{seen_of}
use Rattle.rng_deriv.proofs.BoxedLearning.{opened}
use Rattle.rng_deriv.proofs.ServedTables.{below_there, none_there}
use Rattle.rng_deriv.proofs.grammar_derivatives.GrammarDerivativesDerivatives.tests_strings.Goals as goal

pub facts-requires : goal.facts-requires
facts-requires c =
    let d = c.self.inside in
    let t = d.grammar.now in
    let l = c.deref-learned.result.now in
    let o = opened t (seen_of c.args.self.now) d.learned.value l c.deref-learned.ensures c.self.invariant (ap seen_of c.self.view_is) in
    below_there t l.lost l.table (seen_of c.args.self.now) c.if-learned.false o.seen_is c.args.pattern c.requires

pub returns-then-learned : goal.returns-then-learned
returns-then-learned c =
    let d = c.self.inside in
    let t = d.grammar.now in
    let l = c.deref-learned.result.now in
    let o = opened t (seen_of c.args.self.now) d.learned.value l c.deref-learned.ensures c.self.invariant (ap seen_of c.self.view_is) in
    absurd (none_there t l.lost l.table (seen_of c.args.self.now) c.args.pattern c.if-learned.true o.seen_is c.requires)

use Rattle.std.proofs.Common.{ap}
use Rattle.rng_model.specs.matching.GrammarMatching.{reading_of}
use Rattle.rng_deriv_ways.proofs.KnownWays.{all_longer}
use Rattle.rng_deriv.specs.views.Serving.{seen_of}
use Rattle.rng_deriv.proofs.BoxedLearning.{opened}
use Rattle.rng_deriv.proofs.KeptStarts.{serves_longer}
use Rattle.rng_deriv.proofs.ServedTables.{all_below_there, choice_added, seen_there, there_served}
use Rattle.rng_deriv.proofs.grammar_derivatives.GrammarDerivativesDerivatives.choice.Goals as goal

pub joined-requires : goal.joined-requires
joined-requires c =
    let d = c.self.inside in
    let t = d.grammar.now in
    let l = c.deref_mut-learned.result.now in
    let o = opened t (seen_of c.args.self.now) d.learned.value l c.deref_mut-learned.ensures.value c.self.invariant (ap seen_of c.self.view_is) in
    all_below_there t l.lost l.table (seen_of c.args.self.now) c.if-learned.false o.seen_is c.args.members.now c.requires

pub invariant_of-self-2 : goal.invariant_of-self-2
invariant_of-self-2 c =
    let d = c.self.inside in
    let t = d.grammar.now in
    let l = c.deref_mut-learned.result.now in
    let o = opened t (seen_of c.args.self.now) d.learned.value l c.deref_mut-learned.ensures.value c.self.invariant (ap seen_of c.self.view_is) in
    serves_longer t l.table c.joined.new.self l.keys c.in_ok-number.ensures.longer l.numbers.items l.known
    (there_served t l.keys l.lost l.table l.numbers.items l.known c.if-learned.false o.serves) l.known
    (all_longer t l.keys l.table c.joined.new.self c.in_ok-number.ensures.longer l.known
    (there_served t l.keys l.lost l.table l.numbers.items l.known c.if-learned.false o.serves).2)

pub returns-clause-choice : goal.returns-clause-choice
returns-clause-choice c =
    let d = c.self.inside in
    let t = d.grammar.now in
    let l = c.deref_mut-learned.result.now in
    let o = opened t (seen_of c.args.self.now) d.learned.value l c.deref_mut-learned.ensures.value c.self.invariant (ap seen_of c.self.view_is) in
    let old = l.table in
    let now = c.in_ok-number.ensures in
    choice_added t old c.joined.new.self (seen_of c.args.self.now) (seen_there t l.lost old (seen_of c.args.self.now) c.if-learned.false o.seen_is)
    c.in_ok-number.ensures.longer c.args.members.now c.in_ok-number.number now.inside (now.matches t (reading_of t)) (now.restricted t) c.requires

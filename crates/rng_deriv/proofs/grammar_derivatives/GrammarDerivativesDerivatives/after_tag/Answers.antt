use Rattle.std.proofs.Common.{map, ap}
use Rattle.rng_model.specs.documents.EventViews.{attribute_of}
use Rattle.rng_deriv.specs.views.Serving.{seen_of}
use Rattle.rng_deriv.proofs.BoxedLearning.{opened}
use Rattle.rng_deriv.proofs.KeptStarts.{serves_longer}
use Rattle.rng_deriv.proofs.ServedTables.{below_there, seen_there, tag_added, there_served}
use Rattle.rng_deriv.proofs.grammar_derivatives.GrammarDerivativesDerivatives.after_tag.Goals as goal

pub after_tag-requires-clause-inside : goal.after_tag-requires-clause-inside
after_tag-requires-clause-inside c =
    let d = c.self.inside in
    let t = d.grammar.now in
    let l = c.deref_mut-learned.result.now in
    let o = opened t (seen_of c.args.self.now) d.learned.value l c.deref_mut-learned.ensures.value c.self.invariant (ap seen_of c.self.view_is) in
    below_there t l.lost l.table (seen_of c.args.self.now) c.if-learned.false o.seen_is c.args.body c.requires

pub invariant_of-self-2 : goal.invariant_of-self-2
invariant_of-self-2 c =
    let d = c.self.inside in
    let t = d.grammar.now in
    let l = c.deref_mut-learned.result.now in
    let o = opened t (seen_of c.args.self.now) d.learned.value l c.deref_mut-learned.ensures.value c.self.invariant (ap seen_of c.self.view_is) in
    serves_longer t l.table c.after_tag.new.table l.keys c.in_ok-number.ensures.longer l.numbers.items l.known
    (there_served t l.keys l.lost l.table l.numbers.items l.known c.if-learned.false o.serves)
    c.after_tag.new.known c.in_ok-number.ensures.known

pub returns-clause-after : goal.returns-clause-after
returns-clause-after c =
    let d = c.self.inside in
    let t = d.grammar.now in
    let l = c.deref_mut-learned.result.now in
    let o = opened t (seen_of c.args.self.now) d.learned.value l c.deref_mut-learned.ensures.value c.self.invariant (ap seen_of c.self.view_is) in
    let old = l.table in
    let now = c.in_ok-number.ensures in
    tag_added t old c.after_tag.new.table (seen_of c.args.self.now) (seen_there t l.lost old (seen_of c.args.self.now) c.if-learned.false o.seen_is)
    now.longer (map attribute_of c.args.attrs.now) c.args.body c.in_ok-number.number now.after c.requires

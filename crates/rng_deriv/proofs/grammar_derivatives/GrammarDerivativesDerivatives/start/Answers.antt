use Rattle.std.proofs.Common.{◌∙◌, List, [], ap, slice_index_or, subst}
use Rattle.rng_model.specs.simple.Table.{Table, tree_at}
use Rattle.rng_model.specs.declared.simple.PatternId.{PatternId}
use Rattle.rng_model.specs.matching.GrammarMatching.{reading_of}
use Rattle.rng_deriv_laws.specs.plain.Taking.{Same}
use Rattle.rng_deriv_table.specs.declared.pattern.PatternNumber.{PatternNumber}
use Rattle.rng_deriv_table.specs.views.Node.{Node}
use Rattle.rng_deriv_table.specs.views.Trees.{trees}
use Rattle.rng_deriv_events.specs.views.Numbers.{IsInside, tree_of}
use Rattle.rng_deriv.specs.views.Serving.{seen_of}
use Rattle.rng_deriv.proofs.BoxedLearning.{opened}
use Rattle.rng_deriv.proofs.ServedTables.{seen_there, start_inside, start_same, there_served}
use Rattle.rng_deriv.proofs.grammar_derivatives.GrammarDerivativesDerivatives.start.Goals as goal

pub returns-clause-inside : goal.returns-clause-inside
returns-clause-inside c =
    let d = c.self.inside in
    let t = d.grammar.now in
    let l = c.deref-learned.result.now in
    let o = opened t (seen_of c.args.self.now) d.learned.value l c.deref-learned.ensures c.self.invariant (ap seen_of c.self.view_is) in
    let n : PatternNumber = c.index.result.now in
    let there = c.if-learned.false in
    let served = there_served t l.keys l.lost l.table l.numbers.items l.known there o.serves in
    let read = c.index.ensures ∙ ap (λ (p : PatternId). slice_index_or l.numbers.items p.0 n) c.start.ensures.start in
    subst (λ (s : Table × List Node). IsInside (trees s.0 s.1) n) (seen_there t l.lost l.table (seen_of c.args.self.now) there o.seen_is)
    (start_inside t l.table l.numbers.items served.0 n read)

pub returns-clause-start : goal.returns-clause-start
returns-clause-start c =
    let d = c.self.inside in
    let t = d.grammar.now in
    let l = c.deref-learned.result.now in
    let o = opened t (seen_of c.args.self.now) d.learned.value l c.deref-learned.ensures c.self.invariant (ap seen_of c.self.view_is) in
    let n : PatternNumber = c.index.result.now in
    let there = c.if-learned.false in
    let served = there_served t l.keys l.lost l.table l.numbers.items l.known there o.serves in
    let read = c.index.ensures ∙ ap (λ (p : PatternId). slice_index_or l.numbers.items p.0 n) c.start.ensures.start in
    let same = subst (λ (s : Table × List Node). Same (reading_of s.0) (tree_of (trees s.0 s.1) n) (tree_at s.0.patterns s.0.start))
    (seen_there t l.lost l.table (seen_of c.args.self.now) there o.seen_is)
    (start_same t l.table l.numbers.items served.0 n read) in
    λ ns. (same.to [] ns, same.back [] ns)

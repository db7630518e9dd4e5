use Rattle.std.proofs.Common.{List, subst, ap}
use Rattle.rng_deriv_table.specs.declared.pattern.PatternNumber.{PatternNumber}
use Rattle.rng_deriv.specs.views.PatternRenewal.{AreSameTrees}
use Rattle.rng_deriv.specs.views.Serving.{seen_of}
use Rattle.rng_deriv.proofs.BoxedLearning.{opened}
use Rattle.rng_deriv.proofs.PatternRenewal.{held_renewed, served_renewed}
use Rattle.rng_deriv.proofs.ServedTables.{all_below_there, seen_there, there_served}
use Rattle.rng_deriv.proofs.grammar_derivatives.GrammarDerivativesDerivatives.renew.Goals as goal

pub renewed-requires-clause-held : goal.renewed-requires-clause-held
renewed-requires-clause-held c =
    let d = c.self.inside in
    let t = d.grammar.now in
    let l = c.deref_mut-learned.result.now in
    let o = opened t (seen_of c.args.self.now) d.learned.value l c.deref_mut-learned.ensures.value c.self.invariant (ap seen_of c.self.view_is) in
    all_below_there t l.lost l.table (seen_of c.args.self.now) c.if-learned.false o.seen_is c.args.held.now c.requires

pub invariant_of-self-2 : goal.invariant_of-self-2
invariant_of-self-2 c =
    let d = c.self.inside in
    let t = d.grammar.now in
    let l = c.deref_mut-learned.result.now in
    let o = opened t (seen_of c.args.self.now) d.learned.value l c.deref_mut-learned.ensures.value c.self.invariant (ap seen_of c.self.view_is) in
    let old = l.table in
    let new = c.in_ok-table.field-0.table in
    let numbers = c.in_ok-table.field-0.numbers.items in
    let served = there_served t l.keys l.lost old l.numbers.items l.known c.if-learned.false o.serves in (
      served_renewed t old new l.numbers.items numbers
          (subst (λ (ms : List PatternNumber). AreSameTrees t old new ms numbers) c.as_slice.ensures.value (c.in_ok-table.ensures.numbers t)) served.0,
      served.1,
      c.forget.ensures t l.keys old new served.2,
    )

pub returns-clause-kept : goal.returns-clause-kept
returns-clause-kept c =
    let d = c.self.inside in
    let t = d.grammar.now in
    let l = c.deref_mut-learned.result.now in
    let o = opened t (seen_of c.args.self.now) d.learned.value l c.deref_mut-learned.ensures.value c.self.invariant (ap seen_of c.self.view_is) in
    let old = l.table in
    held_renewed t old c.in_ok-table.field-0.table (seen_of c.args.self.now)
    (seen_there t l.lost old (seen_of c.args.self.now) c.if-learned.false o.seen_is) c.args.held.now c.in_ok-table.field-0.held.items c.requires
    (c.in_ok-table.ensures.held t)

use Rattle.std.proofs.Common.{List, map, subst}
use Rattle.rng_model.specs.documents.EventViews.{attribute_of}
use Rattle.rng_model.specs.matching.Document.{Attribute}
use Rattle.rng_model.specs.matching.GrammarMatching.{reading_of}
use Rattle.rng_deriv_table.specs.views.Choices.{SomeTakes}
use Rattle.rng_deriv_table.specs.views.Trees.{tree_of}
use Rattle.rng_deriv_table.proofs.Trees.{Longer-trans}
use Rattle.rng_deriv_ways.proofs.KnownWays.{all_longer}
use Rattle.rng_deriv_ways.proofs.StartBodies.{ready_longer}
use Rattle.rng_reasons.proofs.LeftPatterns.{IsBehind, all_taken, attribute_there, behind_more, behind_none, first_at_fault, left_after_tag, nothing_takes, one_more_taken, others_missing}
use Rattle.rng_reasons.proofs.tag_faults.tag_fault.Goals as goal

pub returns-then-not-is_left-clause-fault : goal.returns-then-not-is_left-clause-fault
returns-then-not-is_left-clause-fault c =
    let t = c.args.context.now.grammar.now in
    λ ys ns d. nothing_takes (reading_of t) (tree_of t c.choice.new.self c.in_ok-left.left.0) ys ns
    (c.is_left.ensures.nothing c.if-not-is_left.true t) ((c.in_ok-left.ensures.matches t (reading_of t) ys ns).1 d)

pub returns-then-not-is_left-clause-known : goal.returns-then-not-is_left-clause-known
returns-then-not-is_left-clause-known c = all_longer c.args.context.now.grammar.now c.args.context.now.keys.now c.args.table.now c.choice.new.self
    c.in_ok-left.ensures.longer c.args.known.now c.requires.known

pub attrs-init : goal.attrs-init
attrs-init c =
    let t = c.args.context.now.grammar.now in
    let old = c.args.table.now in
    let new = c.choice.new.self in
    let made = c.in_ok-left.ensures in
    record {
      longer = made.longer;
      behind = behind_none (SomeTakes (reading_of t) (tree_of t old) c.args.bodies.now) t new c.in_ok-left.left made.inside
          (made.restricted t c.requires.restricted) (λ xs ns. made.matches t (reading_of t) xs ns);
      allowed = c.is_left.ensures.left c.if-not-is_left.false t;
      known = all_longer t c.args.context.now.keys.now old new made.longer c.args.known.now c.requires.known;
    }

pub after_attribute-requires-clause-ready : goal.after_attribute-requires-clause-ready
after_attribute-requires-clause-ready c =
    ready_longer c.args.context.now.grammar.now c.args.table.now c.attrs.table c.args.context.now.numbers.now c.attrs.invariant.longer c.requires.ready

pub attrs-preserved : goal.attrs-preserved
attrs-preserved c =
    let t = c.args.context.now.grammar.now in
    let old = c.args.table.now in
    let attrs = c.args.attrs.now in
    let left = c.in_ok-rest.ensures.left in
    record {
      longer = Longer-trans old c.attrs.table c.after_attribute.new.table c.attrs.invariant.longer c.in_ok-rest.ensures.longer;
      behind = behind_more (SomeTakes (reading_of t) (tree_of t old) c.args.bodies.now) t c.attrs.table c.after_attribute.new.table _ _ _ c.attrs.left c.in_ok-rest.rest
          c.attrs.invariant.behind left (one_more_taken attrs c.attrs.index c.index-attrs-index.result c.attrs-test.true c.index-attrs-index.is);
      allowed = c.is_left-in-attrs.ensures.left c.if-not-is_left-2.false t;
      known = c.in_ok-rest.ensures.known;
    }

pub returns-then-not-is_left-2-clause-fault : goal.returns-then-not-is_left-2-clause-fault
returns-then-not-is_left-2-clause-fault c =
    let t = c.args.context.now.grammar.now in
    let attrs = c.args.attrs.now in
    let Taken = SomeTakes (reading_of t) (tree_of t c.args.table.now) c.args.bodies.now in
    let before = c.attrs.table in
    let new = c.after_attribute.new.table in
    let is = c.attrs.invariant in
    let more = one_more_taken attrs c.attrs.index c.index-attrs-index.result c.attrs-test.true c.index-attrs-index.is in
    let next = behind_more Taken t before new _ _ _ c.attrs.left c.in_ok-rest.rest is.behind c.in_ok-rest.ensures.left more in
    first_at_fault Taken t before new c.in_ok-rest.ensures.longer (map attribute_of attrs) c.attrs.index c.index-attrs-index.result
    (attribute_there attrs c.attrs.index c.index-attrs-index.result c.attrs-test.true c.index-attrs-index.is) c.attrs.left c.in_ok-rest.rest is.behind is.allowed next
    c.in_ok-is_name_taken.is_name_taken (c.is_left-in-attrs.ensures.nothing c.if-not-is_left-2.true t) c.in_ok-is_name_taken.ensures

pub returns-then-not-is_left-3-clause-fault : goal.returns-then-not-is_left-3-clause-fault
returns-then-not-is_left-3-clause-fault c =
    let t = c.args.context.now.grammar.now in
    let attrs = c.args.attrs.now in
    let Taken = SomeTakes (reading_of t) (tree_of t c.args.table.now) c.args.bodies.now in
    let Behind : List Attribute → Type 0 = λ xs. IsBehind Taken t c.attrs.table xs c.attrs.left in
    others_missing Taken t c.attrs.table c.closed.new.table (map attribute_of attrs) c.attrs.left c.in_ok-rest-2.rest
    (subst Behind (all_taken attrs c.attrs.index c.attrs-test.false) c.attrs.invariant.behind) c.in_ok-rest-2.ensures.closed c.in_ok-rest-2.ensures.longer
    c.attrs.invariant.allowed (c.is_left-2.ensures.nothing c.if-not-is_left-3.true t)

pub returns-clause-fault : goal.returns-clause-fault
returns-clause-fault c =
    let t = c.args.context.now.grammar.now in
    let attrs = c.args.attrs.now in
    let Taken = SomeTakes (reading_of t) (tree_of t c.args.table.now) c.args.bodies.now in
    let Behind : List Attribute → Type 0 = λ xs. IsBehind Taken t c.attrs.table xs c.attrs.left in (
      c.in_ok-rest-2.rest,
      left_after_tag Taken t c.attrs.table c.closed.new.table (map attribute_of attrs) c.attrs.left c.in_ok-rest-2.rest
          (subst Behind (all_taken attrs c.attrs.index c.attrs-test.false) c.attrs.invariant.behind) c.in_ok-rest-2.ensures.closed
          (c.is_left-2.ensures.left c.if-not-is_left-3.false t),
    )

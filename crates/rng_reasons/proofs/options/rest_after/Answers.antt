use Rattle.std.proofs.Common.{List, map, subst}
use Rattle.rng_model.specs.documents.EventViews.{attribute_of}
use Rattle.rng_model.specs.matching.Document.{Attribute}
use Rattle.rng_model.specs.matching.GrammarMatching.{reading_of}
use Rattle.rng_deriv_table.specs.views.Choices.{SomeTakes}
use Rattle.rng_deriv_table.specs.views.Trees.{tree_of}
use Rattle.rng_deriv_table.proofs.Trees.{Longer-trans}
use Rattle.rng_deriv_ways.proofs.KnownWays.{all_longer}
use Rattle.rng_deriv_ways.proofs.StartBodies.{ready_longer}
use Rattle.rng_reasons.proofs.LeftPatterns.{IsBehind, all_taken, behind_more, behind_none, left_behind, nothing_behind, one_more_taken}
use Rattle.rng_reasons.proofs.options.rest_after.Goals as goal

pub attrs-init : goal.attrs-init
attrs-init c =
    let t = c.args.context.now.grammar.now in
    let old = c.args.table.now in
    let new = c.choice.new.self in
    let made = c.in_ok-left.ensures in
    record {
      longer = made.longer;
      behind = behind_none (SomeTakes (reading_of t) (tree_of t old) c.args.bodies.now) t new c.in_ok-left.left made.inside
          (made.restricted t c.requires.restricted) (λ xs ns. made.matches t (reading_of t) xs ns);
      known = all_longer t c.args.context.now.keys.now old new made.longer c.args.known.now c.requires.known;
    }

pub after_attribute-requires-clause-ready : goal.after_attribute-requires-clause-ready
after_attribute-requires-clause-ready c =
    ready_longer c.args.context.now.grammar.now c.args.table.now c.attrs.table c.args.context.now.numbers.now c.attrs.invariant.longer c.requires.ready

pub attrs-preserved : goal.attrs-preserved
attrs-preserved c =
    let t = c.args.context.now.grammar.now in
    let old = c.args.table.now in
    let attrs = c.args.attrs.now in
    let rest = c.in_ok-left-2.ensures in
    record {
      longer = Longer-trans old c.attrs.table c.after_attribute.new.table c.attrs.invariant.longer rest.longer;
      behind = behind_more (SomeTakes (reading_of t) (tree_of t old) c.args.bodies.now) t c.attrs.table c.after_attribute.new.table _ _ _ c.attrs.left
          c.in_ok-left-2.left c.attrs.invariant.behind rest.left (one_more_taken attrs c.attrs.attr-index c.attr-item.result c.attrs-test.true c.attr-item.is);
      known = rest.known;
    }

pub returns-then-not-is_left-clause-rest : goal.returns-then-not-is_left-clause-rest
returns-then-not-is_left-clause-rest c =
    let t = c.args.context.now.grammar.now in
    let attrs = c.args.attrs.now in
    let Taken = SomeTakes (reading_of t) (tree_of t c.args.table.now) c.args.bodies.now in
    let Behind : List Attribute → Type 0 = λ xs. IsBehind Taken t c.attrs.table xs c.attrs.left in
    nothing_behind Taken t c.attrs.table (map attribute_of attrs) c.attrs.left
    (subst Behind (all_taken attrs c.attrs.attr-index c.attrs-test.false) c.attrs.invariant.behind) (c.is_left.ensures.nothing c.if-not-is_left.true t)

pub returns-clause-rest : goal.returns-clause-rest
returns-clause-rest c =
    let t = c.args.context.now.grammar.now in
    let attrs = c.args.attrs.now in
    let Taken = SomeTakes (reading_of t) (tree_of t c.args.table.now) c.args.bodies.now in
    let Behind : List Attribute → Type 0 = λ xs. IsBehind Taken t c.attrs.table xs c.attrs.left in
    left_behind Taken t c.attrs.table (map attribute_of attrs) c.attrs.left
    (subst Behind (all_taken attrs c.attrs.attr-index c.attrs-test.false) c.attrs.invariant.behind) (c.is_left.ensures.left c.if-not-is_left.false t)

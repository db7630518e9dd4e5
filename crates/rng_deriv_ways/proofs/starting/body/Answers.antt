use Rattle.std.proofs.Common.{◌∙◌, ◌<◌, length, refl, sym, subst, arith}
use Rattle.rng_model.specs.names.NameViews.{name_of}
use Rattle.rng_deriv_laws.specs.plain.Reading.{body_of}
use Rattle.rng_deriv_laws.specs.plain.Taking.{Same}
use Rattle.rng_deriv_table.specs.plain.AskedFor.{as_body}
use Rattle.rng_deriv_table.specs.views.Taking.{tree_by}
use Rattle.rng_deriv_table.specs.views.Trees.{tree_of}
use Rattle.rng_deriv_table.specs.declared.pattern.PatternNumber.{PatternNumber}
use Rattle.rng_model.specs.matching.GrammarMatching.{reading_of}
use Rattle.rng_deriv_ways.specs.plain.Starting.{IsRestrictedBodyNamed}
use Rattle.rng_deriv_ways.proofs.PatternNodes.{is_over}
use Rattle.rng_deriv_ways.proofs.GrammarRows.{body_there, no_class_there}
use Rattle.rng_deriv_ways.proofs.StartBodies.{body_inside, leaf_not_started, leaf_started, other_not_started}
use Rattle.rng_deriv_ways.proofs.starting.body.Goals as goal

pub returns-in_default : goal.returns-in_default
returns-in_default c =
    let t = c.args.context.now.grammar.now in
    other_not_started (reading_of t) (name_of c.args.name.now) t c.args.table.now c.args.leaf.0 c.pattern.result.now c.pattern.ensures.table
    c.pattern.ensures.found c.in_default.not-Element

pub returns-then-not-element_takes : goal.returns-then-not-element_takes
returns-then-not-element_takes c =
    let t = c.args.context.now.grammar.now in
    leaf_not_started (reading_of t) (name_of c.args.name.now) (tree_of t c.args.table.now c.args.leaf.0) c.in-Element.element.0
    (is_over t c.args.table.now c.args.leaf.0 c.pattern.result.now _ c.pattern.ensures.table c.pattern.ensures.found c.in-Element.is)
    (sym c.element_takes.ensures ∙ c.if-not-element_takes.true)

pub number_at-requires : goal.number_at-requires
number_at-requires c =
    let inside = body_inside c.args.context.now.grammar.now c.in-Element.element.0 c.in-Some.field-0.now c.requires.ready.grammar (sym c.in-Some.ensures) in
    let long = c.requires.ready.long in
    omega (arith, inside, long)

pub returns-in-Some : goal.returns-in-Some
returns-in-Some c =
    let t = c.args.context.now.grammar.now in
    let ns = c.args.table.now in
    let g = reading_of t in
    let k = c.in-Element.element.0 in
    let e = c.in-Some.field-0.now in
    let found = sym c.in-Some.ensures in
    let inside = body_inside t k e c.requires.ready.grammar found in
    let long = c.requires.ready.long in
    let there : e.1.0 < length c.args.context.now.numbers.now = omega (arith, inside, long) in
    let is = sym c.number_at.ensures in
    let At : PatternNumber → Type 0 = λ b. b.0 < length ns in
    let Takes : PatternNumber → Type 0 = λ b. Same g (tree_of t ns b.0) (body_of g k) in
    let Obeys : PatternNumber → Type 0 = λ b. IsRestrictedBodyNamed g (name_of c.args.name.now) (tree_of t ns b.0) in
    let has = sym c.element_takes.ensures ∙ c.if-not-element_takes.false in (
      subst At is (c.requires.ready.taken.inside e.1.0 there),
      (
        k,
        leaf_started g (name_of c.args.name.now) (tree_of t ns c.args.leaf.0) k
            (is_over t ns c.args.leaf.0 c.pattern.result.now _ c.pattern.ensures.table c.pattern.ensures.found c.in-Element.is)
            has,
        subst Takes is (subst (λ p. Same g (tree_by t ns c.args.context.now.numbers.now e.1) p) (sym (body_there t k e found)) (c.requires.ready.taken.same e.1.0 there (as_body k e found refl) g)),
        λ bodies.
            let b = bodies k e found in
            subst Obeys is (record { restricted = b.restricted; body = record { typed = b.typed; element = k; named = has } }),
      ),
    )

pub returns-in-None : goal.returns-in-None
returns-in-None c =
    let t = c.args.context.now.grammar.now in
    leaf_not_started (reading_of t) (name_of c.args.name.now) (tree_of t c.args.table.now c.args.leaf.0) c.in-Element.element.0
    (is_over t c.args.table.now c.args.leaf.0 c.pattern.result.now _ c.pattern.ensures.table c.pattern.ensures.found c.in-Element.is)
    (no_class_there t c.in-Element.element.0 (name_of c.args.name.now) (sym c.in-None.ensures))

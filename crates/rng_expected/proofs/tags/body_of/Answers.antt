use Rattle.std.proofs.Common.{◌≡◌, ◌∙◌, ◌<◌, length, false, true, refl, sym, ap, subst, arith, slice_get, Some}
use Rattle.rng_model.specs.names.NameViews.{class_of, name_of}
use Rattle.rng_model.specs.matching.GrammarMatching.{reading_of}
use Rattle.rng_names.proofs.Holding.{holds-Decides}
use Rattle.rng_deriv_laws.specs.plain.Reading.{body_of, has_name}
use Rattle.rng_deriv_laws.specs.plain.Restricted.{IsRestricted}
use Rattle.rng_deriv_laws.specs.plain.Taking.{Same}
use Rattle.rng_deriv_table.specs.plain.AskedFor.{as_body}
use Rattle.rng_deriv_table.specs.views.Taking.{tree_by}
use Rattle.rng_deriv_table.specs.views.Trees.{tree_of}
use Rattle.rng_deriv_table.specs.declared.pattern.PatternNumber.{PatternNumber}
use Rattle.rng_deriv_ways.proofs.GrammarRows.{body_there, class_there, no_class_there}
use Rattle.rng_deriv_ways.proofs.StartBodies.{body_inside}
use Rattle.rng_expected.proofs.TagLeaves.{element_number, element_tree, no_element}
use Rattle.rng_expected.proofs.tags.body_of.Goals as goal

pub returns-in_default-clause-body : goal.returns-in_default-clause-body
returns-in_default-clause-body c = λ k named.
    no_element c.args.context.now.grammar.now c.args.table.now c.args.leaf c.pattern.result.now c.pattern.ensures.table c.pattern.ensures.found c.requires.leaf
    c.in_default.not-Element k named.0

pub returns-in_default-element-clause-body : goal.returns-in_default-element-clause-body
returns-in_default-element-clause-body c = λ k named.
    let t = c.args.context.now.grammar.now in
    let same = element_number t c.args.table.now c.args.leaf c.pattern.result.now c.pattern.ensures.table c.pattern.ensures.found c.in-Element.element
    c.in-Element.is k named.0 in
    let none = no_class_there t c.in-Element.element.0 (name_of c.args.name.now) (sym c.element.ensures ∙ ap Rattle.std.specs.Option.option_copied c.in_default-element.is) in
    let no : false ≡ true = sym none ∙ ap (λ k. has_name (reading_of t) k (name_of c.args.name.now)) same ∙ named.1 in
    absurd cc

pub returns-then-not-contains-clause-body : goal.returns-then-not-contains-clause-body
returns-then-not-contains-clause-body c = λ k named.
    let t = c.args.context.now.grammar.now in
    let q = name_of c.args.name.now in
    let e = c.in-Some.field-0.now in
    let found : slice_get t.elements c.in-Element.element.0 ≡ Some e = sym c.element.ensures ∙ ap Rattle.std.specs.Option.option_copied c.in-Some.is in
    let same = element_number t c.args.table.now c.args.leaf c.pattern.result.now c.pattern.ensures.table c.pattern.ensures.found c.in-Element.element
    c.in-Element.is k named.0 in
    let holds = sym (class_there t c.in-Element.element.0 e q found) ∙ ap (λ k. has_name (reading_of t) k q) same ∙ named.1 in
    let no : false ≡ true = sym c.if-not-contains.true ∙ c.contains.ensures.1 ((holds-Decides (class_of e.0) q).0 holds) in
    absurd cc

pub number_at-requires : goal.number_at-requires
number_at-requires c =
    let t = c.args.context.now.grammar.now in
    let found : slice_get t.elements c.in-Element.element.0 ≡ Some c.in-Some.field-0.now = sym c.element.ensures ∙ ap Rattle.std.specs.Option.option_copied c.in-Some.is in
    let inside = body_inside t c.in-Element.element.0 c.in-Some.field-0.now c.requires.ready.grammar found in
    let long = c.requires.ready.long in
    omega (arith, inside, long)

pub returns-clause-body : goal.returns-clause-body
returns-clause-body c =
    let t = c.args.context.now.grammar.now in
    let ns = c.args.table.now in
    let g = reading_of t in
    let q = name_of c.args.name.now in
    let k = c.in-Element.element.0 in
    let e = c.in-Some.field-0.now in
    let found : slice_get t.elements k ≡ Some e = sym c.element.ensures ∙ ap Rattle.std.specs.Option.option_copied c.in-Some.is in
    let inside = body_inside t k e c.requires.ready.grammar found in
    let long = c.requires.ready.long in
    let there : e.1.0 < length c.args.context.now.numbers.now = omega (arith, inside, long) in
    let is = sym c.number_at.ensures in
    let At : PatternNumber → Type 0 = λ b. b.0 < length ns in
    let Takes : PatternNumber → Type 0 = λ b. Same g (tree_of t ns b.0) (body_of g k) in
    let has : has_name g k q ≡ true = class_there t k e q found ∙ (holds-Decides (class_of e.0) q).1 (c.contains.ensures.0 c.if-not-contains.false) in (
      subst At is (c.requires.ready.taken.inside e.1.0 there),
      (
        k,
        (element_tree t ns c.args.leaf c.pattern.result.now c.pattern.ensures.table c.pattern.ensures.found c.in-Element.element c.in-Element.is, has),
        subst Takes is
            (subst (λ p. Same g (tree_by t ns c.args.context.now.numbers.now e.1) p) (sym (body_there t k e found))
            (c.requires.ready.taken.same e.1.0 there (as_body k e found refl) g)),
      ),
    )

pub returns-clause-restricted : goal.returns-clause-restricted
returns-clause-restricted c = λ each.
    let t = c.args.context.now.grammar.now in
    let found : slice_get t.elements c.in-Element.element.0 ≡ Some c.in-Some.field-0.now = sym c.element.ensures ∙ ap Rattle.std.specs.Option.option_copied c.in-Some.is in
    let Obeys : PatternNumber → Type 0 = λ b. IsRestricted (tree_of t c.args.table.now b.0) in
    subst Obeys (sym c.number_at.ensures) (each c.in-Element.element.0 c.in-Some.field-0.now found).restricted

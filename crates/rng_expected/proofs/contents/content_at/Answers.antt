use Rattle.std.proofs.Common.{◌≡◌, ◌∙◌, ◌<◌, length, false, true, refl, sym, ap, subst, arith, slice_get, rules, Some, None}
use Rattle.std.specs.Option.{option_copied}
use Rattle.std.proofs.lemmas.Option.{slice_get_within}
use Rattle.rng_model.specs.names.Names.{In, NameClass}
use Rattle.rng_model.specs.names.NameViews.{class_of, name_of}
use Rattle.rng_model.specs.matching.GrammarMatching.{reading_of}
use Rattle.rng_model.specs.simple.Table.{tree_at}
use Rattle.rng_model.specs.simple.Tree.{s_attribute}
use Rattle.rng_deriv_laws.specs.plain.Taking.{Same}
use Rattle.rng_deriv_table.specs.plain.AskedFor.{as_part}
use Rattle.rng_deriv_table.specs.views.Trees.{attribute_found, tree_of}
use Rattle.rng_deriv_table.specs.declared.pattern.PatternNumber.{PatternNumber}
use Rattle.rng_expected.proofs.TagLeaves.{attribute_tree, is_attribute, no_class_in, no_class_there, no_content}
use Rattle.rng_expected.proofs.contents.content_at.Goals as goal

pub returns-in_default : goal.returns-in_default
returns-in_default c = λ content has.
    absurd (is_attribute c.args.context.now.grammar.now c.args.table.now c.args.leaf c.pattern.result.now c.pattern.ensures.table c.pattern.ensures.found
    c.requires.leaf c.in_default.not-Attribute)

pub returns-in_default-pattern : goal.returns-in_default-pattern
returns-in_default-pattern c =
    let t = c.args.context.now.grammar.now in
    let none : slice_get t.patterns c.in-Attribute.position.0 ≡ None = sym c.pattern-2.ensures.value ∙ ap option_copied c.in_default-pattern.is in
    let is = attribute_tree t c.args.table.now c.args.leaf c.pattern.result.now c.pattern.ensures.table c.pattern.ensures.found c.in-Attribute.position
    c.in-Attribute.is in
    no_content t c.args.table.now (name_of c.args.name.now) c.args.leaf _ (is ∙ ap (attribute_found t) none) (no_class_there t)

pub returns-in_default-row : goal.returns-in_default-row
returns-in_default-row c =
    let t = c.args.context.now.grammar.now in
    let found : slice_get t.patterns c.in-Attribute.position.0 ≡ Some c.in-Some.row.now = sym c.pattern-2.ensures.value ∙ ap option_copied c.in-Some.is in
    let is = attribute_tree t c.args.table.now c.args.leaf c.pattern.result.now c.pattern.ensures.table c.pattern.ensures.found c.in-Attribute.position
    c.in-Attribute.is in
    no_content t c.args.table.now (name_of c.args.name.now) c.args.leaf _ (is ∙ ap (attribute_found t) found)
    (no_class_in t c.in-Some.row.now c.in_default-row.not-Attribute)

pub returns-then-not-contains : goal.returns-then-not-contains
returns-then-not-contains c = λ content has.
    let t = c.args.context.now.grammar.now in
    let q = name_of c.args.name.now in
    let class = c.in-Attribute-row.class in
    let found : slice_get t.patterns c.in-Attribute.position.0 ≡ Some c.in-Some.row.now = sym c.pattern-2.ensures.value ∙ ap option_copied c.in-Some.is in
    let is = attribute_tree t c.args.table.now c.args.leaf c.pattern.result.now c.pattern.ensures.table c.pattern.ensures.found c.in-Attribute.position
    c.in-Attribute.is ∙ ap (attribute_found t) (found ∙ ap Some c.in-Attribute-row.is) in
    let same : class_of class.value ≡ has.0 = let e : s_attribute (class_of class.value) (tree_at t.patterns c.in-Attribute-row.content) ≡ s_attribute has.0 content = sym is ∙ has.1 in cc in
    let held : In (class_of c.deref.result.now) q = subst (λ (k : NameClass). In k q) (sym (ap class_of c.deref.ensures ∙ same)) has.2 in
    let no : false ≡ true = sym c.if-not-contains.true ∙ c.contains.ensures.1 held in
    absurd cc

pub number_at-requires : goal.number_at-requires
number_at-requires c =
    let t = c.args.context.now.grammar.now in
    let found : slice_get t.patterns c.in-Attribute.position.0 ≡ Some c.in-Some.row.now = sym c.pattern-2.ensures.value ∙ ap option_copied c.in-Some.is in
    let within = slice_get_within t.patterns c.in-Attribute.position.0 _ found in
    let below : c.in-Attribute-row.content.0 < c.in-Attribute.position.0 = search rules in
    let long = c.requires.ready.long in
    omega (arith, within, below, long)

pub returns : goal.returns
returns c =
    let t = c.args.context.now.grammar.now in
    let ns = c.args.table.now in
    let q = name_of c.args.name.now in
    let class = c.in-Attribute-row.class in
    let content = c.in-Attribute-row.content in
    let row : slice_get t.patterns c.in-Attribute.position.0 ≡ Some c.in-Some.row.now = sym c.pattern-2.ensures.value ∙ ap option_copied c.in-Some.is in
    let found = row ∙ ap Some c.in-Attribute-row.is in
    let is = attribute_tree t ns c.args.leaf c.pattern.result.now c.pattern.ensures.table c.pattern.ensures.found c.in-Attribute.position c.in-Attribute.is
    ∙ ap (attribute_found t) found in
    let within = slice_get_within t.patterns c.in-Attribute.position.0 _ row in
    let below : content.0 < c.in-Attribute.position.0 = search rules in
    let long = c.requires.ready.long in
    let there : content.0 < length c.args.context.now.numbers.now = omega (arith, within, below, long) in
    let number = sym c.number_at.ensures in
    let held : In (class_of class.value) q = subst (λ (k : NameClass). In k q) (ap class_of c.deref.ensures) (c.contains.ensures.0 c.if-not-contains.false) in (
      subst (λ (b : PatternNumber). b.0 < length ns) number (c.requires.ready.taken.inside content.0 there),
      (
        tree_at t.patterns content,
        (class_of class.value, is, held),
        subst (λ (b : PatternNumber). Same (reading_of t) (tree_of t ns b.0) (tree_at t.patterns content)) number
            (c.requires.ready.taken.same content.0 there (as_part c.in-Attribute.position.0 _ found refl) (reading_of t)),
      ),
    )

use Rattle.std.proofs.Common.{All, List, subst, sym}
use Rattle.rng_model.specs.names.NameViews.{name_of}
use Rattle.rng_deriv_table.specs.declared.pattern.PatternNumber.{PatternNumber}
use Rattle.rng_expected.specs.plain.Leaves.{IsLeafAt}
use Rattle.rng_expected.specs.plain.TagLeaves.{AreContentsOf}
use Rattle.rng_expected.specs.declared.leaves.Standing.TheVariants as standings
use Rattle.rng_expected.proofs.TagParts.{are_contents}
use Rattle.rng_expected.proofs.contents.attribute_contents.Goals as goal

pub contents_of-requires-clause-attributes : goal.contents_of-requires-clause-attributes
contents_of-requires-clause-attributes c =
    subst (All (IsLeafAt standings.InTag c.args.table.now)) (sym c.as_slice.ensures.value)
    (c.in_ok-attributes.ensures c.args.context.now.grammar.now).leaves

pub returns-clause-inside : goal.returns-clause-inside
returns-clause-inside c = c.in_ok-contents.ensures.inside

pub returns-clause-contents : goal.returns-clause-contents
returns-clause-contents c =
    let t = c.args.context.now.grammar.now in
    let ns = c.args.table.now in
    let q = name_of c.args.name.now in
    let contents = c.in_ok-contents.contents.items in
    let Contents : List PatternNumber → Type 0 = λ attributes. AreContentsOf t ns q attributes contents in
    are_contents t ns c.args.bodies.now c.in_ok-attributes.attributes.items (c.in_ok-attributes.ensures t) q contents
    (subst Contents c.as_slice.ensures.value c.in_ok-contents.ensures)

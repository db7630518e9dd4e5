use Rattle.std.proofs.Common.{All, List, subst, sym}
use Rattle.rng_model.specs.names.NameViews.{name_of}
use Rattle.rng_deriv_table.specs.declared.pattern.PatternNumber.{PatternNumber}
use Rattle.rng_expected.specs.plain.Leaves.{IsLeafAt}
use Rattle.rng_expected.specs.plain.TagLeaves.{AreBodiesOf}
use Rattle.rng_expected.specs.declared.leaves.Standing.TheVariants as standings
use Rattle.rng_expected.proofs.TagParts.{are_bodies}
use Rattle.rng_expected.proofs.tags.expected_bodies.Goals as goal

pub bodies_of-requires-clause-starts : goal.bodies_of-requires-clause-starts
bodies_of-requires-clause-starts c =
    subst (All (IsLeafAt standings.First c.args.table.now)) (sym c.as_slice.ensures.value) (c.in_ok-starts.ensures c.args.context.now.grammar.now).leaves

pub returns-clause-inside : goal.returns-clause-inside
returns-clause-inside c = c.in_ok-bodies.ensures.bodies.inside

pub returns-clause-bodies : goal.returns-clause-bodies
returns-clause-bodies c =
    let t = c.args.context.now.grammar.now in
    let ns = c.args.table.now in
    let q = name_of c.args.name.now in
    let bodies = c.in_ok-bodies.bodies.items in
    let Bodies : List PatternNumber → Type 0 = λ starts. AreBodiesOf t ns q starts bodies in
    are_bodies t ns c.args.alternatives.now c.in_ok-starts.starts.items bodies q (c.in_ok-starts.ensures t)
    (subst Bodies c.as_slice.ensures.value c.in_ok-bodies.ensures.bodies)

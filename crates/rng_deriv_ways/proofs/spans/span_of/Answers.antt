use Rattle.std.proofs.Common.{◌<◌, All, List, arith, length, map, refl, slice_get, subst, sym}
use Rattle.rng_model.specs.simple.Tree.{group, interleave}
use Rattle.rng_deriv_table.specs.views.Trees.{attribute_found, choice_over, tree_of}
use Rattle.rng_deriv_table.specs.declared.pattern.PatternNumber.{PatternNumber}
use Rattle.rng_deriv_table.proofs.KnownFacts.{of_members, one_within}
use Rattle.rng_deriv_ways.specs.plain.Takers.{HasAttribute, IsSpanOf}
use Rattle.rng_deriv_ways.proofs.AttributeTakers.{other_none}
use Rattle.rng_deriv_ways.proofs.PatternNodes.{is_over, parts_there}
use Rattle.rng_deriv_ways.proofs.spans.span_of.Goals as goal

pub span_of_members-requires : goal.span_of_members-requires
span_of_members-requires c =
    let ms : List PatternNumber = c.in-Choice.members.items in
    let n = length c.args.spans.now in
    let below = parts_there c.args.table.now c.args.number.0 c.pattern.result.now _ c.pattern.ensures.table c.pattern.ensures.found c.in-Choice.is in
    let Below : List PatternNumber → Type 0 = λ ms. All (λ m. m.0 < n) ms in
    subst Below (sym c.as_slice.ensures.value)
    (of_members (λ k. k < n) ms (subst (λ i. All (λ k. k < i) (map (λ (m : PatternNumber). m.0) ms)) (sym c.requires.all) below.1))

pub span_of_sides-requires-clause-first : goal.span_of_sides-requires-clause-first
span_of_sides-requires-clause-first c =
    let below = parts_there c.args.table.now c.args.number.0 c.pattern.result.now _ c.pattern.ensures.table c.pattern.ensures.found c.in-Group.is in
    let one = below.0 in
    let all = c.requires.all in
    omega (arith, one, all)

pub span_of_sides-requires-clause-second : goal.span_of_sides-requires-clause-second
span_of_sides-requires-clause-second c =
    let below = parts_there c.args.table.now c.args.number.0 c.pattern.result.now _ c.pattern.ensures.table c.pattern.ensures.found c.in-Group.is in
    let one = below.1 in
    let all = c.requires.all in
    omega (arith, one, all)

pub span_of_sides-requires-in-Interleave-clause-first : goal.span_of_sides-requires-in-Interleave-clause-first
span_of_sides-requires-in-Interleave-clause-first c =
    let below = parts_there c.args.table.now c.args.number.0 c.pattern.result.now _ c.pattern.ensures.table c.pattern.ensures.found c.in-Interleave.is in
    let one = below.0 in
    let all = c.requires.all in
    omega (arith, one, all)

pub span_of_sides-requires-in-Interleave-clause-second : goal.span_of_sides-requires-in-Interleave-clause-second
span_of_sides-requires-in-Interleave-clause-second c =
    let below = parts_there c.args.table.now c.args.number.0 c.pattern.result.now _ c.pattern.ensures.table c.pattern.ensures.found c.in-Interleave.is in
    let one = below.1 in
    let all = c.requires.all in
    omega (arith, one, all)

pub span_at-requires : goal.span_at-requires
span_at-requires c =
    let one = parts_there c.args.table.now c.args.number.0 c.pattern.result.now _ c.pattern.ensures.table c.pattern.ensures.found c.in-OneOrMore.is in
    let all = c.requires.all in
    omega (arith, one, all)

pub returns-in-Choice : goal.returns-in-Choice
returns-in-Choice c = λ t all.
    let ns = c.args.table.now in
    let is = is_over t ns c.args.number.0 c.pattern.result.now _ c.pattern.ensures.table c.pattern.ensures.found c.in-Choice.is in
    subst (λ p. IsSpanOf t p c.span_of_members.result) (sym is)
    (subst (λ (ms : List PatternNumber). IsSpanOf t (choice_over (tree_of t ns) (map (λ (m : PatternNumber). m.0) ms)) c.span_of_members.result)
    c.as_slice.ensures.value (c.span_of_members.ensures t ns all))

pub returns-in-Group : goal.returns-in-Group
returns-in-Group c = λ t all.
    let ns = c.args.table.now in
    let is = is_over t ns c.args.number.0 c.pattern.result.now _ c.pattern.ensures.table c.pattern.ensures.found c.in-Group.is in
    subst (λ p. IsSpanOf t p c.span_of_sides.result) (sym is) (c.span_of_sides.ensures t ns group all)

pub returns-in-Interleave : goal.returns-in-Interleave
returns-in-Interleave c = λ t all.
    let ns = c.args.table.now in
    let is = is_over t ns c.args.number.0 c.pattern.result.now _ c.pattern.ensures.table c.pattern.ensures.found c.in-Interleave.is in
    subst (λ p. IsSpanOf t p c.span_of_sides-in-Interleave.result) (sym is) (c.span_of_sides-in-Interleave.ensures t ns interleave all)

pub returns-in-OneOrMore : goal.returns-in-OneOrMore
returns-in-OneOrMore c = λ t all.
    let ns = c.args.table.now in
    let is = is_over t ns c.args.number.0 c.pattern.result.now _ c.pattern.ensures.table c.pattern.ensures.found c.in-OneOrMore.is in
    subst (λ p. IsSpanOf t p c.span_at.result) (sym is) (c.span_at.ensures t ns all)

pub returns-in-Attribute : goal.returns-in-Attribute
returns-in-Attribute c = λ t all.
    let ns = c.args.table.now in
    let k = c.in-Attribute.position.0 in
    let is = is_over t ns c.args.number.0 c.pattern.result.now _ c.pattern.ensures.table c.pattern.ensures.found c.in-Attribute.is in
    subst (λ p. IsSpanOf t p c.one.result) (sym is)
    (subst (IsSpanOf t (attribute_found t (slice_get t.patterns k))) (sym c.one.ensures) (λ q h. (k, one_within k, h)))

pub returns-in_default : goal.returns-in_default
returns-in_default c = λ t all q h.
    let ns = c.args.table.now in
    let p = c.pattern.result.now in
    let is = is_over t ns c.args.number.0 p p c.pattern.ensures.table c.pattern.ensures.found refl in
    absurd (other_none t (tree_of t ns) p c.in_default.not-Choice c.in_default.not-Group c.in_default.not-Interleave c.in_default.not-OneOrMore
    c.in_default.not-Attribute q (subst (HasAttribute q) is h))

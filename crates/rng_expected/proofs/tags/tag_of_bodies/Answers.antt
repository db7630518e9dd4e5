use Rattle.rng_model.specs.declared.name.NameClass.{NameClass}
use Rattle.std.proofs.Common.{All, Bor, List, map, subst, sym}
use Rattle.rng_model.specs.names.NameViews.{class_of, name_of}
use Rattle.rng_deriv_table.specs.declared.pattern.PatternNumber.{PatternNumber}
use Rattle.rng_expected.specs.plain.Leaves.{IsLeafAt}
use Rattle.rng_expected.specs.plain.TagLeaves.{AreClassesOf, AreNeeded}
use Rattle.rng_expected.specs.views.Next.{tag_of}
use Rattle.rng_expected.specs.declared.leaves.Standing.TheVariants as standings
use Rattle.rng_expected.proofs.TagParts.{is_tag}
use Rattle.rng_expected.proofs.tags.tag_of_bodies.Goals as goal

pub classes_of-requires-clause-attributes : goal.classes_of-requires-clause-attributes
classes_of-requires-clause-attributes c =
    subst (All (IsLeafAt standings.InTag c.args.table.now)) (sym c.as_slice.ensures.value) (c.in_ok-found.ensures c.args.grammar.now).leaves

pub returns : goal.returns
returns c =
    let t = c.args.grammar.now in
    let ns = c.args.table.now in
    let bodies = c.args.bodies.now in
    let found = c.in_ok-found.found.items in
    let Classes : List PatternNumber → Type 0 = λ found. AreClassesOf t ns found (map (λ c. class_of c.now) c.in_ok-attributes.attributes.items) in
    let required = map (λ n. name_of n.now) c.in_ok-required.required.items in
    let NeededOf : List (Bor NameClass) → Type 0 = λ cs. AreNeeded t ns bodies (map (λ c. class_of c.now) cs) required in
    is_tag t ns bodies found (c.in_ok-found.ensures t)
    (tag_of (record { attributes = c.in_ok-attributes.attributes; required = c.in_ok-required.required }))
    (subst Classes c.as_slice.ensures.value c.in_ok-attributes.ensures.classes)
    (subst NeededOf c.as_slice-2.ensures.value c.in_ok-required.ensures)

use Rattle.std.proofs.Common.{◌∙◌, ◌++◌, ap, subst}
use Rattle.rng_deriv_table.specs.declared.pattern.Facts.{Facts}
use Rattle.rng_expected.specs.plain.Leaves.{AddsMarks, lets, lets_behind, nullable_in, side}
use Rattle.rng_expected.proofs.leaves.mark_group.Goals as goal

pub returns : goal.returns
returns c = λ t.
    let old = c.args.marks.now.items in
    let new = c.mark_two.new.marks.items in
    let a = c.args.first.0 in
    let b = c.args.second.0 in
    let s = c.args.standing in
    subst (λ x. AddsMarks old new (side x a ++ side (lets_behind s (nullable_in t c.args.table.now a)) b))
    (c.lets.ensures ∙ ap (λ (f : Facts). lets s f.nullable) (c.facts-behind.ensures.exact t))
    (subst (λ y. AddsMarks old new (side c.lets.result a ++ side y b))
    (c.lets_behind.ensures ∙ ap (λ (f : Facts). lets_behind s f.nullable) (c.facts-before.ensures.exact t)) c.mark_two.ensures)

use Rattle.std.proofs.Common.{[], ◌∷◌, true, get_or, set, subst, sym, arith}
use Rattle.std.proofs.lemmas.List.{map_more}
use Rattle.rng_expected.specs.plain.Leaves.{AddsMarks}
use Rattle.rng_expected.proofs.Marks.{more_marks, no_marks, one_mark}
use Rattle.rng_expected.proofs.leaves.mark_all.Goals as goal

pub loop-number-init : goal.loop-number-init
loop-number-init c = no_marks c.args.marks.now.items

pub loop-number-preserved : goal.loop-number-preserved
loop-number-preserved c =
    let old = c.args.marks.now.items in
    let mid = c.loop-number.marks.items in
    let ms = c.args.numbers.now in
    let i = c.loop-number.number-index in
    let m = get_or ms i (record { 0 = 0 }) in
    let long = c.loop-number.invariant.long in
    let inside = c.requires i (record { 0 = 0 }) c.loop-number-test.true in
    subst (AddsMarks old (set mid m.0 true)) (sym (map_more (λ n. n.0) ms i (record { 0 = 0 }) c.loop-number-test.true))
    (more_marks old mid (set mid m.0 true) _ (m.0 ∷ []) c.loop-number.invariant (one_mark mid m.0 (omega (arith, long, inside))))

use Rattle.std.proofs.Common.{◌≡◌, ◌≢◌, length, rules, tests, ◌∙◌, ap, sym}
use Rattle.std.specs.Cmp.Lexicographic.{slice_cmp}
use Rattle.std.specs.Ordering.{nat_cmp, ordering_then}
use Rattle.xsd_decimals.proofs.Magnitudes.{compared_from_front, compared_by_length, decided}
use Rattle.xsd_decimals.proofs.number.compare_sizes.Goals as goal

pub returns-then-a-b : goal.returns-then-a-b
returns-then-a-b c =
    let a = c.args.a.now in
    let b = c.args.b.now in
    let l = c.requires.left in
    let r = c.requires.right in
    let other : length a.whole.now ≢ length b.whole.now = search (rules, tests) in
    c.cmp.ensures
    ∙ compared_by_length a.whole.now a.fraction.now b.whole.now b.fraction.now l.whole_digits l.fraction_digits r.whole_digits r.fraction_digits other

pub returns-in-Equal : goal.returns-in-Equal
returns-in-Equal c =
    let a = c.args.a.now in
    let b = c.args.b.now in
    let l = c.requires.left in
    let r = c.requires.right in
    let same : length a.whole.now ≡ length b.whole.now = search (rules, tests) in
    c.cmp-in-Equal.ensures
    ∙ ap (λ o. ordering_then o (slice_cmp nat_cmp a.fraction.now b.fraction.now)) (sym c.in-Equal.is ∙ c.cmp-2.ensures)
    ∙ compared_from_front a.whole.now a.fraction.now b.whole.now b.fraction.now l.whole_digits l.fraction_digits r.whole_digits r.fraction_digits same

pub returns-in_default : goal.returns-in_default
returns-in_default c =
    let a = c.args.a.now in
    let b = c.args.b.now in
    let l = c.requires.left in
    let r = c.requires.right in
    let same : length a.whole.now ≡ length b.whole.now = search (rules, tests) in
    decided c.cmp-2.result (slice_cmp nat_cmp a.fraction.now b.fraction.now) c.in_default.not-Equal
    ∙ ap (λ o. ordering_then o (slice_cmp nat_cmp a.fraction.now b.fraction.now)) c.cmp-2.ensures
    ∙ compared_from_front a.whole.now a.fraction.now b.whole.now b.fraction.now l.whole_digits l.fraction_digits r.whole_digits r.fraction_digits same

use Rattle.std.proofs.Common.{◌∙◌, ap, take, drop, length}
use Rattle.rng_deriv.proofs.PatternRenewal.{back_same, front_same}
use Rattle.rng_deriv.proofs.pattern_renewal.renewed.Goals as goal

pub returns-clause-numbers : goal.returns-clause-numbers
returns-clause-numbers c = λ t.
    let told = c.in_ok-table.ensures in
    let numbers = c.args.numbers.now in
    front_same t c.args.table.now c.in_ok-table.table numbers c.args.held.now c.as_slice.result.now c.in_ok-table.given.items
    (c.as_slice.ensures.value ∙ c.in_ok-wanted.ensures) told.inside (told.same t) c.in_ok-numbers.numbers.items
    (c.in_ok-numbers.ensures ∙ c.split_at.ensures.front ∙ ap (take (length numbers)) c.as_slice-2.ensures.value)

pub returns-clause-held : goal.returns-clause-held
returns-clause-held c = λ t.
    let told = c.in_ok-table.ensures in
    let numbers = c.args.numbers.now in
    back_same t c.args.table.now c.in_ok-table.table numbers c.args.held.now c.as_slice.result.now c.in_ok-table.given.items
    (c.as_slice.ensures.value ∙ c.in_ok-wanted.ensures) told.inside (told.same t) c.in_ok-held.held.items
    (c.in_ok-held.ensures ∙ c.split_at.ensures.back ∙ ap (drop (length numbers)) c.as_slice-2.ensures.value)

use Rattle.std.proofs.Common.{◌≡◌, Bool, List, map, subst}
use Rattle.rng_deriv_table.specs.plain.Selecting.{AreCopied, given_for}
use Rattle.rng_deriv_table.specs.declared.pattern.PatternNumber.{PatternNumber}
use Rattle.rng_deriv_table.proofs.CopiedPatterns.{selected_inside, selected_same}
use Rattle.rng_deriv_table.proofs.SelectedNumbers.{restricted_selected, taken_selected}
use Rattle.rng_deriv_table.proofs.pattern_table.PatternTable.selected.Goals as goal

pub returns-clause-inside : goal.returns-clause-inside
returns-clause-inside c =
    let ns = c.args.self.now in
    let given = c.in_ok-table.given.items in
    let Copied : List Bool → Type 0 = λ marks. AreCopied ns marks c.in_ok-table.table given in
    let Given : List PatternNumber → Type 0 = λ given. map (λ n. n.0) c.in_ok-places.places.items ≡ map (given_for given) (map (λ n. n.0) c.args.numbers.now) in
    selected_inside ns c.in_ok-table.table c.in_ok-marks.marks.items given (subst Copied c.as_slice.ensures.value c.in_ok-table.ensures.copied)
    c.in_ok-table.ensures.long c.args.numbers.now c.in_ok-places.places.items c.requires c.in_ok-marks.ensures.marked
    (subst Given c.as_slice-2.ensures.value c.in_ok-places.ensures)

pub returns-clause-same : goal.returns-clause-same
returns-clause-same c =
    let ns = c.args.self.now in
    let given = c.in_ok-table.given.items in
    let Copied : List Bool → Type 0 = λ marks. AreCopied ns marks c.in_ok-table.table given in
    let Given : List PatternNumber → Type 0 = λ given. map (λ n. n.0) c.in_ok-places.places.items ≡ map (given_for given) (map (λ n. n.0) c.args.numbers.now) in
    selected_same ns c.in_ok-table.table c.in_ok-marks.marks.items given (subst Copied c.as_slice.ensures.value c.in_ok-table.ensures.copied)
    c.in_ok-table.ensures.long c.args.numbers.now c.in_ok-places.places.items c.requires c.in_ok-marks.ensures.marked
    (subst Given c.as_slice-2.ensures.value c.in_ok-places.ensures)

pub returns-clause-taken : goal.returns-clause-taken
returns-clause-taken c = λ t k.
    taken_selected t c.args.self.now c.in_ok-table.table c.args.numbers.now c.in_ok-places.places.items (returns-clause-inside c) (returns-clause-same c t) k

pub returns-clause-restricted : goal.returns-clause-restricted
returns-clause-restricted c = λ t k.
    restricted_selected t c.args.self.now c.in_ok-table.table c.args.numbers.now c.in_ok-places.places.items (returns-clause-inside c)
    (returns-clause-same c t) k

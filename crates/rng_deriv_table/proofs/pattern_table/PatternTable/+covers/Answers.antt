use Rattle.std.proofs.Common.{arith, eqb-true, refl, subst, sym}
use Rattle.std.specs.List.{Contains}
use Rattle.rng_deriv_table.proofs.TableRows.{is_there}
use Rattle.rng_deriv_table.proofs.WiderParts.{choice_covers, first_covers, group_covers, interleave_covers, second_covers}
use Rattle.rng_deriv_table.proofs.pattern_table.PatternTable.+covers.Goals as goal

pub covers-requires : goal.covers-requires
covers-requires t c =
    let below = c.pattern.ensures.table.falls c.args.outer.0 _ (is_there c.pattern.ensures.found c.in-Group.is) in
    let first = below.0 in
    let there = c.requires.outer in
    let under = c.pattern-in-Group.ensures.table.falls c.args.inner.0 _ (is_there c.pattern-in-Group.ensures.found c.in-Group-pattern.is) in
    let front = under.0 in
    let inside = c.requires.inner in
    let d = c.decreases in
    (omega (arith, first, d), (omega (arith, first, there), omega (arith, front, inside)))

pub is_enough-requires-clause-side : goal.is_enough-requires-clause-side
is_enough-requires-clause-side t c =
    let below = c.pattern.ensures.table.falls c.args.outer.0 _ (is_there c.pattern.ensures.found c.in-Interleave.is) in
    let first = below.0 in
    let there = c.requires.outer in
    omega (arith, first, there)

pub is_enough-requires-clause-other : goal.is_enough-requires-clause-other
is_enough-requires-clause-other t c =
    let below = c.pattern.ensures.table.falls c.args.outer.0 _ (is_there c.pattern.ensures.found c.in-Interleave.is) in
    let second = below.1 in
    let there = c.requires.outer in
    omega (arith, second, there)

pub is_enough-requires-in-Interleave-clause-side : goal.is_enough-requires-in-Interleave-clause-side
is_enough-requires-in-Interleave-clause-side t c =
    let below = c.pattern.ensures.table.falls c.args.outer.0 _ (is_there c.pattern.ensures.found c.in-Interleave.is) in
    let second = below.1 in
    let there = c.requires.outer in
    omega (arith, second, there)

pub is_enough-requires-in-Interleave-clause-other : goal.is_enough-requires-in-Interleave-clause-other
is_enough-requires-in-Interleave-clause-other t c =
    let below = c.pattern.ensures.table.falls c.args.outer.0 _ (is_there c.pattern.ensures.found c.in-Interleave.is) in
    let first = below.0 in
    let there = c.requires.outer in
    omega (arith, first, there)

pub covers-requires-then-is_enough : goal.covers-requires-then-is_enough
covers-requires-then-is_enough t c =
    let below = c.pattern.ensures.table.falls c.args.outer.0 _ (is_there c.pattern.ensures.found c.in-Interleave.is) in
    let first = below.0 in
    let there = c.requires.outer in
    let d = c.decreases in
    (omega (arith, first, d), (omega (arith, first, there), c.requires.inner))

pub covers-requires-then-is_enough-2 : goal.covers-requires-then-is_enough-2
covers-requires-then-is_enough-2 t c =
    let below = c.pattern.ensures.table.falls c.args.outer.0 _ (is_there c.pattern.ensures.found c.in-Interleave.is) in
    let second = below.1 in
    let there = c.requires.outer in
    let d = c.decreases in
    (omega (arith, second, d), (omega (arith, second, there), c.requires.inner))

pub covers-requires-in-Interleave-pattern : goal.covers-requires-in-Interleave-pattern
covers-requires-in-Interleave-pattern t c =
    let below = c.pattern.ensures.table.falls c.args.outer.0 _ (is_there c.pattern.ensures.found c.in-Interleave.is) in
    let first = below.0 in
    let there = c.requires.outer in
    let under = c.pattern-in-Interleave.ensures.table.falls c.args.inner.0 _ (is_there c.pattern-in-Interleave.ensures.found c.in-Interleave-pattern.is) in
    let front = under.0 in
    let inside = c.requires.inner in
    let d = c.decreases in
    (omega (arith, first, d), (omega (arith, first, there), omega (arith, front, inside)))

pub covers-requires-then-covers : goal.covers-requires-then-covers
covers-requires-then-covers t c =
    let below = c.pattern.ensures.table.falls c.args.outer.0 _ (is_there c.pattern.ensures.found c.in-Interleave.is) in
    let second = below.1 in
    let there = c.requires.outer in
    let under = c.pattern-in-Interleave.ensures.table.falls c.args.inner.0 _ (is_there c.pattern-in-Interleave.ensures.found c.in-Interleave-pattern.is) in
    let rest = under.1 in
    let inside = c.requires.inner in
    let d = c.decreases in
    (omega (arith, second, d), (omega (arith, second, there), omega (arith, rest, inside)))

pub returns-then-is_enough : goal.returns-then-is_enough
returns-then-is_enough t c = λ yes.
    let whole = is_there c.pattern.ensures.found c.in-Interleave.is in
    first_covers c.args.self.now c.pattern.ensures.table c.args.outer c.in-Interleave.first c.in-Interleave.second whole c.args.inner
    (c.is_enough.ensures c.if-is_enough.true) (c.covers-then-is_enough.ensures yes)

pub returns-then-is_enough-2 : goal.returns-then-is_enough-2
returns-then-is_enough-2 t c = λ yes.
    let whole = is_there c.pattern.ensures.found c.in-Interleave.is in
    second_covers c.args.self.now c.pattern.ensures.table c.args.outer c.in-Interleave.first c.in-Interleave.second whole c.args.inner
    (c.is_enough-in-Interleave.ensures c.if-is_enough-2.true) (c.covers-then-is_enough-2.ensures yes)

pub returns-in-Group-pattern : goal.returns-in-Group-pattern
returns-in-Group-pattern t c = λ yes.
    let whole = is_there c.pattern.ensures.found c.in-Group.is in
    let part = is_there c.pattern-in-Group.ensures.found c.in-Group-pattern.is in
    group_covers c.args.self.now c.pattern.ensures.table c.args.outer c.in-Group.first c.in-Group.second c.args.inner c.in-Group-pattern.front
    c.in-Group-pattern.rest whole part (eqb-true _ _ (sym c.if-eq-2.ensures)) (c.covers.ensures yes)

pub returns-then-covers : goal.returns-then-covers
returns-then-covers t c = λ yes.
    let whole = is_there c.pattern.ensures.found c.in-Interleave.is in
    let part = is_there c.pattern-in-Interleave.ensures.found c.in-Interleave-pattern.is in
    interleave_covers c.args.self.now c.pattern.ensures.table c.args.outer c.in-Interleave.first c.in-Interleave.second whole c.args.inner
    c.in-Interleave-pattern.one c.in-Interleave-pattern.other part (c.if-covers.ensures refl)
    (c.covers-then-covers.ensures yes)

pub returns-in-Choice : goal.returns-in-Choice
returns-in-Choice t c = λ yes.
    choice_covers c.args.self.now c.pattern.ensures.table c.args.outer c.args.inner c.in-Choice.members.items
    (is_there c.pattern.ensures.found c.in-Choice.is) (subst (λ ms. Contains ms c.args.inner) c.as_slice.ensures.value (c.is_among.ensures yes))

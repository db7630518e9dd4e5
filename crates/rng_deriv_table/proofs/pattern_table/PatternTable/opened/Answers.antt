use Rattle.std.proofs.Common.{arith}
use Rattle.rng_deriv_table.proofs.Units.{group_there}
use Rattle.rng_deriv_table.proofs.pattern_table.PatternTable.opened.Goals as goal

pub returns-then-ne-clause-below : goal.returns-then-ne-clause-below
returns-then-ne-clause-below c =
    let sides = group_there c.args.self.now c.args.first.0 c.pattern.result.now c.in-Group.outer c.in-Group.inner c.pattern.ensures.table
    c.pattern.ensures.found c.in-Group.is in
    (sides.0, sides.1)

pub returns-then-ne-clause-sides : goal.returns-then-ne-clause-sides
returns-then-ne-clause-sides c =
    (group_there c.args.self.now c.args.first.0 c.pattern.result.now c.in-Group.outer c.in-Group.inner c.pattern.ensures.table
    c.pattern.ensures.found c.in-Group.is).2

pub facts-is_nullable-requires : goal.facts-is_nullable-requires
facts-is_nullable-requires c =
    let below = (group_there c.args.self.now c.args.first.0 c.pattern.result.now c.in-Group.outer c.in-Group.inner c.pattern.ensures.table
    c.pattern.ensures.found c.in-Group.is).0 in
    let inside = c.requires.first in
    omega (arith, below, inside)

pub is_group-requires : goal.is_group-requires
is_group-requires c =
    let below = (group_there c.args.self.now c.args.first.0 c.pattern.result.now c.in-Group.outer c.in-Group.inner c.pattern.ensures.table
    c.pattern.ensures.found c.in-Group.is).1 in
    let inside = c.requires.first in
    omega (arith, below, inside)

pub returns-clause-below : goal.returns-clause-below
returns-clause-below c =
    let sides = group_there c.args.self.now c.args.first.0 c.pattern.result.now c.in-Group.outer c.in-Group.inner c.pattern.ensures.table
    c.pattern.ensures.found c.in-Group.is in
    (sides.0, sides.1)

pub returns-clause-sides : goal.returns-clause-sides
returns-clause-sides c =
    (group_there c.args.self.now c.args.first.0 c.pattern.result.now c.in-Group.outer c.in-Group.inner c.pattern.ensures.table
    c.pattern.ensures.found c.in-Group.is).2

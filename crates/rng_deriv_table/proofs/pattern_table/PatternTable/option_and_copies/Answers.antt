use Rattle.std.proofs.Common.{arith}
use Rattle.rng_deriv_table.specs.views.Trees.{tree_of}
use Rattle.rng_deriv_table.proofs.Units.{group_there}
use Rattle.rng_deriv_table.proofs.pattern_table.PatternTable.option_and_copies.Goals as goal

pub are_copies-requires-clause-number : goal.are_copies-requires-clause-number
are_copies-requires-clause-number c =
    let below = (group_there c.args.self.now c.args.number.0 c.pattern.result.now c.in-Group.first c.in-Group.second c.pattern.ensures.table
    c.pattern.ensures.found c.in-Group.is).1 in
    let inside = c.requires.number in
    omega (arith, below, inside)

pub returns-then-are_copies-clause-inside : goal.returns-then-are_copies-clause-inside
returns-then-are_copies-clause-inside c =
    let below = (group_there c.args.self.now c.args.number.0 c.pattern.result.now c.in-Group.first c.in-Group.second c.pattern.ensures.table
    c.pattern.ensures.found c.in-Group.is).1 in
    let inside = c.requires.number in
    ((c.requires.options c.in-Group.first c.in_ok-option.option c.in_ok-option.ensures).inside, omega (arith, below, inside))

pub returns-then-are_copies-clause-sides : goal.returns-then-are_copies-clause-sides
returns-then-are_copies-clause-sides c = λ t. record {
  first = tree_of t c.args.self.now c.in-Group.first.0;
  is = (group_there c.args.self.now c.args.number.0 c.pattern.result.now c.in-Group.first c.in-Group.second c.pattern.ensures.table
      c.pattern.ensures.found c.in-Group.is).2 t;
  option_is = (c.requires.options c.in-Group.first c.in_ok-option.option c.in_ok-option.ensures).is t;
  copies = c.are_copies.ensures c.if-are_copies.true t;
}

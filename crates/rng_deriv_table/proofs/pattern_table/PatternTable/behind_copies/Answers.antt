use Rattle.std.proofs.Common.{◌≡◌, arith, refl, rules, subst}
use Rattle.rng_deriv_table.specs.plain.Copies.{AreCopies, IsBehindCopies, copies_before, nothing_before}
use Rattle.rng_deriv_table.specs.views.Trees.{tree_of}
use Rattle.rng_deriv_table.specs.declared.pattern.PatternNumber.{PatternNumber}
use Rattle.rng_deriv_table.proofs.Units.{group_there}
use Rattle.rng_deriv_table.proofs.pattern_table.PatternTable.behind_copies.Goals as goal

pub copies-init : goal.copies-init
copies-init c = record { inside = c.requires.number; behind = λ t. nothing_before refl }

pub unit-requires-in-copies : goal.unit-requires-in-copies
unit-requires-in-copies c =
    let below = (group_there c.args.self.now c.copies.rest.0 c.pattern.result.now c.in-Group.first c.in-Group.second c.pattern.ensures.table
    c.pattern.ensures.found c.in-Group.is).0 in
    let inside = c.copies.invariant.inside in
    omega (arith, below, inside)

pub copies-smaller : goal.copies-smaller
copies-smaller c =
    (group_there c.args.self.now c.copies.rest.0 c.pattern.result.now c.in-Group.first c.in-Group.second c.pattern.ensures.table
    c.pattern.ensures.found c.in-Group.is).1

pub copies-preserved : goal.copies-preserved
copies-preserved c =
    let ns = c.args.self.now in
    let sides = group_there ns c.copies.rest.0 c.pattern.result.now c.in-Group.first c.in-Group.second c.pattern.ensures.table
    c.pattern.ensures.found c.in-Group.is in
    let below = sides.1 in
    let inside = c.copies.invariant.inside in
    let is : c.unit-in-copies.result ≡ c.args.unit = search rules in
    record {
      inside = omega (arith, below, inside);
      behind = λ t. copies_before
          (subst (λ (u : PatternNumber). AreCopies (tree_of t ns u.0) (tree_of t ns c.in-Group.first.0)) is (c.unit-in-copies.ensures.copies t))
          (subst (IsBehindCopies (tree_of t ns c.args.unit.0) (tree_of t ns c.args.number.0)) (sides.2 t) (c.copies.invariant.behind t));
    }

pub returns-clause-alone : goal.returns-clause-alone
returns-clause-alone c =
    let ns = c.args.self.now in
    let is : c.unit.result ≡ c.args.unit = search rules in
    λ t. (
      tree_of t ns c.copies.rest.0,
      c.copies.invariant.behind t,
      subst (λ (u : PatternNumber). AreCopies (tree_of t ns u.0) (tree_of t ns c.copies.rest.0)) is (c.unit.ensures.copies t),
    )

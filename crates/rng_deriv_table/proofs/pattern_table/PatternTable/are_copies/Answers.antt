use Rattle.std.proofs.Common.{◌≡◌, ap, arith, eqb-true, rules, subst, sym}
use Rattle.rng_deriv_table.specs.plain.Copies.{AreCopies, both, one}
use Rattle.rng_deriv_table.specs.views.Trees.{tree_of}
use Rattle.rng_deriv_table.specs.declared.pattern.PatternNumber.{PatternNumber}
use Rattle.rng_deriv_table.proofs.Units.{group_there}
use Rattle.rng_deriv_table.proofs.pattern_table.PatternTable.are_copies.Goals as goal

pub copies-smaller : goal.copies-smaller
copies-smaller c =
    (group_there c.args.self.now c.copies.rest.0 c.pattern.result.now c.in-Group.first c.in-Group.second c.pattern.ensures.table
    c.pattern.ensures.found c.in-Group.is).1

pub copies-preserved : goal.copies-preserved
copies-preserved c =
    let ns = c.args.self.now in
    let sides = group_there ns c.copies.rest.0 c.pattern.result.now c.in-Group.first c.in-Group.second c.pattern.ensures.table
    c.pattern.ensures.found c.in-Group.is in
    let below = sides.1 in
    let inside = c.copies.invariant.inside in
    record {
      inside = omega (arith, below, inside);
      back = λ t rest. c.copies.invariant.back t (subst (AreCopies (tree_of t ns c.args.copy.0)) (sym (sides.2 t))
          (both (one (ap (tree_of t ns) (eqb-true _ _ (sym c.if-eq.ensures)))) rest));
    }

pub returns : goal.returns
returns c = λ yes t.
    let same : c.copies.rest ≡ c.args.copy = search rules in
    c.copies.invariant.back t (one (ap (λ (n : PatternNumber). tree_of t c.args.self.now n.0) same))

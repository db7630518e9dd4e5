use Rattle.std.proofs.Common.{arith, refl, subst, sym}
use Rattle.rng_model.specs.simple.Tree.{Simple}
use Rattle.rng_deriv_table.specs.plain.Copies.{IsOpened, as_it_is, once_more}
use Rattle.rng_deriv_table.specs.views.Trees.{tree_of}
use Rattle.rng_deriv_table.proofs.Trees.{Longer-length, Longer-refl, Longer-trans, tree_stays}
use Rattle.rng_deriv_table.proofs.pattern_table.PatternTable.reassociated.Goals as goal

pub groups-init : goal.groups-init
groups-init c = record {
  longer = Longer-refl c.args.self.now;
  front = c.requires.first;
  rest = c.requires.second;
  opened = λ t. as_it_is refl refl;
}

pub group-requires-clause-first : goal.group-requires-clause-first
group-requires-clause-first c =
    let below = c.in-Some.ensures.below.1 in
    let inside = c.groups.invariant.front in
    omega (arith, below, inside)

pub groups-smaller : goal.groups-smaller
groups-smaller c = c.in-Some.ensures.below.0

pub groups-preserved : goal.groups-preserved
groups-preserved c =
    let old = c.groups.self in
    let new = c.group.new.self in
    let below = c.in-Some.ensures.below.0 in
    let inside = c.groups.invariant.front in
    let long = Longer-length old new c.in_ok-rest.ensures.longer in
    record {
      longer = Longer-trans c.args.self.now old new c.groups.invariant.longer c.in_ok-rest.ensures.longer;
      front = omega (arith, below, inside, long);
      rest = c.in_ok-rest.ensures.tree.inside;
      opened = λ t.
          let first = tree_of t c.args.self.now c.args.first.0 in
          let second = tree_of t c.args.self.now c.args.second.0 in
          subst (λ (p : Simple _). IsOpened first second p (tree_of t new c.in_ok-rest.rest.0))
          (sym (tree_stays t old new c.in-Some.outer.0 c.in_ok-rest.ensures.longer (omega (arith, below, inside))))
          (once_more (subst (λ (p : Simple _). IsOpened first second p (tree_of t old c.groups.rest.0)) (c.in-Some.ensures.sides t)
          (c.groups.invariant.opened t)) (c.in_ok-rest.ensures.tree.is t));
    }

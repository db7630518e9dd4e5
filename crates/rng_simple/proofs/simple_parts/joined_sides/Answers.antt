use Rattle.std.proofs.Common.{◌∙◌, ap, get_or, map}
use Rattle.rng_simple.specs.views.Joining.{connector_of}
use Rattle.rng_simple.specs.views.RowTable.{tree_of}
use Rattle.rng_simple.specs.plain.SimpleOf.{join}
use Rattle.rng_simple.specs.plain.SimpleParts.{joined_simple}
use Rattle.rng_simple.proofs.Tables.SimpleParts.{grown_twice, next_joined}
use Rattle.rng_simple.proofs.simple_parts.joined_sides.Goals as goal

pub loop-next-init : goal.loop-next-init
loop-next-init c =
    record {
      grown = c.in_ok-joined.ensures.grown;
      there = c.in_ok-joined.ensures.there;
      tree = ap (λ s. joined_simple (connector_of c.args.connector) s (map (tree_of c.args.table.now) c.args.sides.now)) c.in_ok-joined.ensures.tree;
    }

pub loop-next-preserved : goal.loop-next-preserved
loop-next-preserved c =
    let k = connector_of c.args.connector in
    let sides = c.args.sides.now in
    let i = c.loop-next.next-index in
    record {
      grown = grown_twice _ _ _ c.loop-next.invariant.grown c.in_ok-joined-2.ensures.grown;
      there = c.in_ok-joined-2.ensures.there;
      tree = next_joined k (tree_of c.args.table.now) sides i _ _ _ c.loop-next-test.true c.loop-next.invariant.tree
          (c.in_ok-joined-2.ensures.tree
          ∙ ap (join k (tree_of c.loop-next.table c.loop-next.joined)) (c.loop-next.invariant.grown.stays (get_or sides i 0) (c.requires.sides i)));
    }

use Rattle.std.proofs.Common.{◌≡◌, ◌<◌, map, drop}
use Rattle.rng_simple.specs.views.Joining.{connector_of}
use Rattle.rng_simple.specs.views.RowTable.{IsGrown, row_count, tree_of}
use Rattle.rng_simple.specs.plain.SimpleParts.{all_joined, joined_simple}
use Rattle.rng_simple.proofs.simple_parts.joined_sides.Given as goal

abbrev pub invariant-loop-next : goal.invariant-loop-next
invariant-loop-next l =
    let k = connector_of l.connector in record {
      grown : IsGrown l.fn.table l.table;
      there : l.joined < row_count l.table;
      tree : joined_simple k (tree_of l.table l.joined) (map (tree_of l.fn.table) (drop l.next-index l.sides))
          ≡ all_joined k (map (tree_of l.fn.table) l.sides);
    }

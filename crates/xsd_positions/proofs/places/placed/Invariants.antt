use Rattle.std.proofs.Common.{◌≡◌, ◌≤◌, ◌+◌, [], ◌∷◌, length, reverse, vec_len}
use Rattle.xsd_positions.specs.plain.Places.{placed}
use Rattle.xsd_positions.proofs.places.placed.Given as goal

abbrev pub invariant-left : goal.invariant-left
invariant-left l = record {
  within : length l.left.items + length l.done.items ≤ l.count;
  same : placed (reverse l.left.items) (reverse l.behind.items) (reverse l.done.items) ≡ placed (reverse l.fn.positions.items) (l.count ∷ []) [];
}

abbrev pub decreases-left : goal.decreases-left
decreases-left l = vec_len l.left

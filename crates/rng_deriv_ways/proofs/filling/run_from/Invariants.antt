use Rattle.std.proofs.Common.{◌≡◌, ◌+◌, ◌-◌, length}
use Rattle.rng_deriv_ways.specs.plain.Ways.{IsRun, way_at}
use Rattle.rng_deriv_ways.proofs.filling.run_from.Given as goal

abbrev pub invariant-ways : goal.invariant-ways
invariant-ways l = record {
  leaf : l.leaf ≡ (way_at l.ways l.start).leaf;
  at : l.next ≡ l.start + length l.rests.items;
  run : IsRun l.ways l.start l.rests.items;
}

abbrev pub decreases-ways : goal.decreases-ways
decreases-ways l = length l.ways - l.next

use Rattle.std.proofs.Common.{◌≤◌, ◌-◌, length}
use Rattle.rng_deriv_ways.proofs.JoinedWays.{AreJoined}
use Rattle.rng_deriv_ways.proofs.filling.joined_runs.Given as goal

abbrev pub invariant-runs : goal.invariant-runs
invariant-runs l = record {
  joined : AreJoined l.fn.table l.ways l.table l.all.items l.start;
  within : l.start ≤ length l.ways;
}

abbrev pub decreases-runs : goal.decreases-runs
decreases-runs l = length l.ways - l.start

use Rattle.std.proofs.Common.{◌-◌, ◌≤◌, length}
use Rattle.rng_deriv_table.specs.views.Skips.{members_at}
use Rattle.rng_deriv_ways.specs.plain.Idle.{AreIdle}
use Rattle.rng_deriv_ways.proofs.idle.next_member.Given as goal

abbrev pub invariant-members : goal.invariant-members
invariant-members l = record {
  from : l.fn.from ≤ l.position;
  idle : AreIdle l.table l.candidates (members_at l.table l.fn.number.0) l.fn.from l.position;
}

abbrev pub decreases-members : goal.decreases-members
decreases-members l = length l.members - l.position

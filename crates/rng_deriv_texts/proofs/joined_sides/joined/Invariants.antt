use Rattle.std.proofs.Common.{◌≤◌, ◌-◌, length, take}
use Rattle.rng_deriv_texts.proofs.JoinedRests.{AreJoined}
use Rattle.rng_deriv_texts.proofs.joined_sides.joined.Given as goal

abbrev pub invariant-members : goal.invariant-members
invariant-members l = record {
  joined : AreJoined l.fn.table l.table (take l.next l.members) l.whole;
  within : l.next ≤ length l.members;
}

abbrev pub decreases-members : goal.decreases-members
decreases-members l = length l.members - l.next

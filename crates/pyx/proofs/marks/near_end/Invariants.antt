use Rattle.std.proofs.Common.{◌-◌, ◌≤◌}
use Rattle.memchr.specs.Find.{Nowhere, Passes, is_byte}
use Rattle.pyx.proofs.marks.near_end.Given as goal

abbrev pub invariant-ends : goal.invariant-ends
invariant-ends l = record {
  end : Nowhere (Passes (is_byte 10) l.bytes) 0 l.from;
  literal : Nowhere (Passes (is_byte 92) l.bytes) 0 l.from;
  near : l.from ≤ 64;
}

abbrev pub decreases-ends : goal.decreases-ends
decreases-ends l = 64 - l.from

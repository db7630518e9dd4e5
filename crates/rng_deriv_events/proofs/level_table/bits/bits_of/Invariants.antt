use Rattle.std.proofs.Common.{◌≡◌, ◌≤◌, drop, length}
use Rattle.rng_deriv_events.specs.plain.Bits.{bits_of}
use Rattle.rng_deriv_events.proofs.level_table.bits.bits_of.Given as goal

abbrev pub invariant-tests : goal.invariant-tests
invariant-tests l = record {
  within : l.left ≤ length l.tests;
  first : l.bits ≡ bits_of (drop l.left l.tests);
}

abbrev pub decreases-tests : goal.decreases-tests
decreases-tests l = l.left

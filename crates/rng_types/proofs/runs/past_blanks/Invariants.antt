use Rattle.std.proofs.Common.{◌≡◌, ◌≤◌, length}
use Rattle.rng_types.specs.plain.Runs.{past_blanks}
use Rattle.rng_types.proofs.runs.past_blanks.Given as goal

abbrev pub invariant-blanks : goal.invariant-blanks
invariant-blanks l = record {
  past : past_blanks l.rest ≡ past_blanks l.bytes;
  within : length l.rest ≤ length l.bytes;
}

abbrev pub decreases-blanks : goal.decreases-blanks
decreases-blanks l = length l.rest

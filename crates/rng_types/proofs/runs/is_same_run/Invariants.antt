use Rattle.std.proofs.Common.{◌≡◌, length}
use Rattle.std.specs.Str.{bytes_eq}
use Rattle.rng_types.specs.plain.Runs.{from_run}
use Rattle.rng_types.proofs.runs.is_same_run.Given as goal

abbrev pub invariant-bytes : goal.invariant-bytes
invariant-bytes l = bytes_eq (from_run l.left) (from_run l.right) ≡ bytes_eq (from_run l.a) (from_run l.b)

abbrev pub decreases-bytes : goal.decreases-bytes
decreases-bytes l = length l.left

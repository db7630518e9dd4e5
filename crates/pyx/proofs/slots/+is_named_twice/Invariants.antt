use Rattle.std.proofs.Common.{length}
use Rattle.pyx.proofs.slots.+is_named_twice.Given as goal

abbrev pub decreases-is_named_twice : goal.decreases-is_named_twice
decreases-is_named_twice l = length l.attrs.now

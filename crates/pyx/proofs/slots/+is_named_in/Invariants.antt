use Rattle.std.proofs.Common.{length}
use Rattle.pyx.proofs.slots.+is_named_in.Given as goal

abbrev pub decreases-is_named_in : goal.decreases-is_named_in
decreases-is_named_in l = length l.attrs.now

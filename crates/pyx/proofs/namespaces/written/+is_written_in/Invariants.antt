use Rattle.std.proofs.Common.{length}
use Rattle.pyx.proofs.namespaces.written.+is_written_in.Given as goal

abbrev pub decreases-is_written_in : goal.decreases-is_written_in
decreases-is_written_in l = length l.attributes.now

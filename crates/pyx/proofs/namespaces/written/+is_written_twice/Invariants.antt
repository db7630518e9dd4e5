use Rattle.std.proofs.Common.{length}
use Rattle.pyx.proofs.namespaces.written.+is_written_twice.Given as goal

abbrev pub decreases-is_written_twice : goal.decreases-is_written_twice
decreases-is_written_twice l = length l.attributes.now

use Rattle.std.proofs.Common.{length}
use Rattle.pyx.proofs.namespaces.written.+any_forbidden.Given as goal

abbrev pub decreases-any_forbidden : goal.decreases-any_forbidden
decreases-any_forbidden l = length l.declarations.now

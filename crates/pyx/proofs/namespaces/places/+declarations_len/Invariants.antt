use Rattle.std.proofs.Common.{length}
use Rattle.pyx.proofs.namespaces.places.+declarations_len.Given as goal

abbrev pub decreases-declarations_len : goal.decreases-declarations_len
decreases-declarations_len l = length l.declarations.now

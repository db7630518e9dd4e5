use Rattle.std.proofs.Common.{length}
use Rattle.pyx.proofs.elements.+opened_len.Given as goal

abbrev pub decreases-opened_len : goal.decreases-opened_len
decreases-opened_len l = length l.opened.now

use Rattle.std.proofs.Common.{take}
use Rattle.rng_deriv_ways.specs.plain.FewerWays.{AreRepeated}
use Rattle.rng_deriv_ways.proofs.fewer_ways.repeated_ways.Given as goal

abbrev pub invariant-copies : goal.invariant-copies
invariant-copies l = AreRepeated l.table (take l.copy-index l.copies) l.more l.all.items

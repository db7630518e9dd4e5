use Rattle.std.proofs.Common.{take}
use Rattle.rng_deriv_ways.specs.plain.FewerWays.{AreUncovered}
use Rattle.rng_deriv_ways.proofs.fewer_ways.uncovered.Given as goal

abbrev pub invariant-seconds : goal.invariant-seconds
invariant-seconds l = AreUncovered l.table l.fn.second l.firsts (take l.way-index l.way-items) l.left.items

use Rattle.std.proofs.Common.{take}
use Rattle.rng_deriv_ways.specs.views.Plans.{AreRestsBy}
use Rattle.rng_deriv_texts.proofs.plans.rests_by.Given as goal

abbrev pub invariant-ways : goal.invariant-ways
invariant-ways l = AreRestsBy l.leaves l.taken (take l.way-index l.ways) l.rests.items

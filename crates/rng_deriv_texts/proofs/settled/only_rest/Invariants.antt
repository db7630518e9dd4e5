use Rattle.std.proofs.Common.{take}
use Rattle.rng_deriv_texts.specs.plain.Settling.{AreLeft}
use Rattle.rng_deriv_texts.proofs.settled.only_rest.Given as goal

abbrev pub invariant-ways : goal.invariant-ways
invariant-ways l = AreLeft l.context.grammar.now l.table l.first (take l.way-index l.ways) l.rest

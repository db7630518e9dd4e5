use Rattle.std.proofs.Common.{take}
use Rattle.rng_deriv_ways.specs.views.Plans.{IsIndex}
use Rattle.rng_deriv_texts.proofs.value_index.index_of.Given as goal

abbrev pub invariant-ways : goal.invariant-ways
invariant-ways l = IsIndex l.context.grammar.now l.table (take l.way-index l.ways) l.index

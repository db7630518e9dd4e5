use Rattle.std.proofs.Common.{take}
use Rattle.rng_deriv_texts.proofs.WholeStrings.{NoneWhole}
use Rattle.rng_deriv_texts.proofs.settled.taken_by_some.Given as goal

abbrev pub invariant-ways : goal.invariant-ways
invariant-ways l = NoneWhole l.context.grammar.now l.table l.text l.ways (take l.way-index l.ways)

use Rattle.std.proofs.Common.{take}
use Rattle.rng_model.specs.names.NameViews.{name_of}
use Rattle.rng_deriv_ways.specs.plain.Starting.{AreBodies}
use Rattle.rng_deriv_ways.proofs.starting.add_starts.Given as goal

abbrev pub invariant-ways : goal.invariant-ways
invariant-ways l = AreBodies l.context.grammar.now l.table l.context.numbers.now (name_of l.name) (take l.way-index l.ways) l.starts.items

use Rattle.rng_deriv_ways.proofs.KnownDatatypes.{AreKeptBelow}
use Rattle.rng_deriv_ways.proofs.datatypes.Datatypes.new.Given as goal

abbrev pub invariant-patterns : goal.invariant-patterns
invariant-patterns l = AreKeptBelow l.grammar l.datatypes l.position

use Rattle.std.proofs.Common.{All}
use Rattle.rng_model.specs.restrictions.RestrictionFaults.{BreaksNone}
use Rattle.rng_model.specs.simple.Table.{grammar_of}
use Rattle.rng_deriv_cases.proofs.grammars_of.Given as goal

abbrev pub invariant-schemas : goal.invariant-schemas
invariant-schemas l = All (λ g. BreaksNone (grammar_of g)) l.grammars.items

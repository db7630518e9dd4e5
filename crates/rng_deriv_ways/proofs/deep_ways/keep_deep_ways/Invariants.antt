use Rattle.rng_deriv_table.specs.plain.DeepParts.{AreStepsInside}
use Rattle.rng_deriv_table.specs.views.PatternTable.{Longer}
use Rattle.rng_deriv_ways.specs.views.KnownWays.{AreKnown}
use Rattle.rng_deriv_ways.proofs.deep_ways.keep_deep_ways.Given as goal

abbrev pub invariant-steps : goal.invariant-steps
invariant-steps l = record {
  longer : Longer l.fn.table l.table;
  known : AreKnown l.search.grammar.now l.table l.search.kind l.known;
  steps : AreStepsInside l.table l.steps.items;
}

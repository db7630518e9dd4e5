use Rattle.rng_deriv_table.specs.plain.DeepParts.{AreStepsInside}
use Rattle.rng_deriv_table.specs.views.PatternTable.{Longer}
use Rattle.rng_deriv_ways.specs.views.KnownRests.{AreRestsOf}
use Rattle.rng_deriv_ways.proofs.closing.keep_deep_rests.Given as goal

abbrev pub invariant-steps : goal.invariant-steps
invariant-steps l = record {
  longer : Longer l.fn.table l.table;
  known : AreRestsOf l.table l.known;
  steps : AreStepsInside l.table l.steps.items;
}

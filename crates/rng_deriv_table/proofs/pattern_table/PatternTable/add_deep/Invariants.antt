use Rattle.rng_deriv_table.specs.plain.DeepParts.{AreStepsInside}
use Rattle.rng_deriv_table.proofs.pattern_table.PatternTable.add_deep.Given as goal

abbrev pub invariant-numbers : goal.invariant-numbers
invariant-numbers l = AreStepsInside l.self l.fn.steps.items → AreStepsInside l.self l.steps.items

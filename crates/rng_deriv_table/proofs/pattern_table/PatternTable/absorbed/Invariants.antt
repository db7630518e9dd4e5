use Rattle.std.proofs.Common.{IsTrue, nat_eq}
use Rattle.std.specs.HashSet.{contains}
use Rattle.std.specs.List.{Contains}
use Rattle.rng_deriv_table.specs.views.Choices.{IsAbsorbedBy}
use Rattle.rng_deriv_table.specs.declared.pattern.PatternNumber.{PatternNumber}
use Rattle.rng_deriv_table.proofs.pattern_table.PatternTable.absorbed.Given as goal

abbrev pub invariant-alternatives : goal.invariant-alternatives
invariant-alternatives l = (m : PatternNumber) → IsTrue (contains nat_eq l.absorbed m.0)
    → (other : PatternNumber) × Contains l.alternatives other × IsAbsorbedBy l.self m other

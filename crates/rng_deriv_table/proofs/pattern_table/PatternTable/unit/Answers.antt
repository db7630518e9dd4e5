use Rattle.std.proofs.Common.{refl}
use Rattle.rng_deriv_table.specs.plain.Copies.{one}
use Rattle.rng_deriv_table.proofs.pattern_table.PatternTable.unit.Goals as goal

pub returns-in_default-clause-copies : goal.returns-in_default-clause-copies
returns-in_default-clause-copies c = λ t. one refl

pub returns-in_default-2-clause-copies : goal.returns-in_default-2-clause-copies
returns-in_default-2-clause-copies c = λ t. one refl

-- Steps for the parts of deep patterns.
use Rattle.std.specs.Prelude.{ℕ, ◌<◌, All, List, length}
use Rattle.rng_deriv_table.specs.views.Node.{Node}
use Rattle.rng_deriv_table.specs.declared.deep_parts.Step.{Step}
use Rattle.rng_deriv_table.specs.declared.deep_parts.Step.TheVariants as steps

-- the number of the part that a step is for
abbrev pub part_of : Step → ℕ
part_of (steps.Parts n) = n.0
part_of (steps.Whole n) = n.0

-- the parts are in the table
abbrev pub AreStepsInside : List Node → List Step → Type 0
AreStepsInside ns steps = All (λ s. part_of s < length ns) steps

-- What contracts see of a table of levels.
use Rattle.std.specs.Prelude.{◌≡◌, ℕ, List, [], Bool, true, Option, Some, None, slice_get, Contains, codes, if◌then◌else◌}
use Rattle.smallvec.specs.SmallVec.{SmallVec}
use Rattle.rng_deriv_table.specs.declared.pattern.PatternNumber.{PatternNumber}
use Rattle.rng_deriv_events.specs.declared.level_table.level.Level.{Level}
use Rattle.rng_deriv_events.specs.declared.level_table.level.LevelNumber.{LevelNumber}
use Rattle.rng_deriv_events.specs.declared.level_table.table.LevelTable.{LevelTable}
use Rattle.rng_deriv_events.specs.declared.level_table.step.End.{End}
use Rattle.rng_deriv_events.specs.declared.level_table.step.Step.{Step}

-- ---- what is in a table, by number

abbrev pub levels_in : LevelTable → List Level
levels_in t = t.levels.items

abbrev pub steps_in : LevelTable → List Step
steps_in t = t.steps.items

-- for each level, that behind a tag without attributes, if it is known
abbrev pub closed_in : LevelTable → List (Option LevelNumber)
closed_in t = t.closed.items

-- for each level, that after its sample string, if it is known
abbrev pub sampled_in : LevelTable → List (Option LevelNumber)
sampled_in t = t.sampled.items

-- The sample string of a level. What is left after it is left after the empty string, and where no alternative tests
-- what a string says, after every string.
abbrev pub sample_of : Option Level → List ℕ
sample_of None = []
sample_of (Some l) = if l.tests_strings then [] else codes "x"

abbrev pub sample_in : List Level → ℕ → List ℕ
sample_in levels n = sample_of (slice_get levels n)

-- for each step, the ends that are known
abbrev pub ends_in : LevelTable → List (SmallVec End)
ends_in t = t.ends.items

-- the same levels and the same steps
pub record KeepsLists (old new : LevelTable) : Type 0 where
  pub levels : levels_in new ≡ levels_in old
  pub steps : steps_in new ≡ steps_in old

-- the same is known of them
pub record KeepsKnown (old new : LevelTable) : Type 0 where
  pub closed : closed_in new ≡ closed_in old
  pub sampled : sampled_in new ≡ sampled_in old
  pub ends : ends_in new ≡ ends_in old

-- ---- levels

abbrev pub numbers_or_none : Option Level → List PatternNumber
numbers_or_none None = []
numbers_or_none (Some l) = l.numbers.items

-- the alternatives of the level with this number
abbrev pub numbers_in : List Level → ℕ → List PatternNumber
numbers_in levels n = numbers_or_none (slice_get levels n)

-- an alternative of the level with this number tests what a string says
abbrev pub tests_or_true : Option Level → Bool
tests_or_true None = true
tests_or_true (Some l) = l.tests_strings

abbrev pub tests_in : List Level → ℕ → Bool
tests_in levels n = tests_or_true (slice_get levels n)

-- ---- what is known of levels and steps

-- this level is known for the one with this number
abbrev pub IsKnownAt : List (Option LevelNumber) → ℕ → LevelNumber → Type 0
IsKnownAt known n m = slice_get known n ≡ Some (Some m)

-- the end is known for the step with this number
abbrev pub IsEndAt : List (SmallVec End) → ℕ → End → Type 0
IsEndAt ends n e = (es : SmallVec End) × (slice_get ends n ≡ Some es) × Contains es.items e

-- the step begins at this level, with a name of this key
abbrev pub IsStepOf : List Step → ℕ → ℕ → ℕ → Type 0
IsStepOf steps level key n = (s : Step) × (slice_get steps n ≡ Some s) × (s.from.0 ≡ level) × (s.key.0 ≡ key)

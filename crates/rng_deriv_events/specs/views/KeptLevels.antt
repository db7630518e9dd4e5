-- What is kept of levels, and when it is right: it is what the call that it replaces may return, for each name of a key.
use Rattle.std.specs.Prelude.{◌≡◌, ◌↔◌, ◌⊎◌, ℕ, ◌<◌, List, [], ◌∷◌, ◌++◌, ◌&&◌, ◌||◌, length, map, All, Bool, true, false, Option, Some, None, IfSome}
use Rattle.std.specs.Prelude.{slice_get}
use Rattle.std.specs.List.{AllZip, list_all, list_any}
use Rattle.rng_names.specs.plain.Keys.{Keys, key_of}
use Rattle.rng_model.specs.names.Names.{Name}
use Rattle.rng_model.specs.simple.Tree.{Simple}
use Rattle.rng_model.specs.matching.GrammarMatching.{Reading}
use Rattle.rng_deriv_laws.specs.plain.Derivatives.{has_data, is_not_allowed, is_nullable}
use Rattle.rng_deriv_laws.specs.plain.LevelStates.{IsAfterTag, IsAfterText}
use Rattle.rng_deriv_table.specs.declared.pattern.PatternNumber.{PatternNumber}
use Rattle.rng_deriv_events.specs.plain.Bits.{bits_of}
use Rattle.rng_deriv_events.specs.views.LevelTable.{IsEndAt, IsKnownAt, closed_in, ends_in, levels_in, numbers_in, sample_in, sampled_in, steps_in}
use Rattle.rng_deriv_events.specs.declared.level_table.level.Level.{Level}
use Rattle.rng_deriv_events.specs.declared.level_table.level.LevelNumber.{LevelNumber}
use Rattle.rng_deriv_events.specs.declared.level_table.table.LevelTable.{LevelTable}
use Rattle.rng_deriv_events.specs.declared.level_table.step.End.{End}
use Rattle.rng_deriv_events.specs.declared.level_table.step.Step.{Step}
use Rattle.rng_deriv_events.specs.views.Levels.{AddsEnded, AddsOpened, IsRestWithin}
use Rattle.rng_deriv_events.specs.views.Numbers.{AddsEach, IsInside, tree_of}

-- ---- one thing that is kept

-- which of the alternatives are nullable
abbrev pub nullable_in : List (Simple ℕ) → List PatternNumber → List Bool
nullable_in trees ps = map is_nullable (map (tree_of trees) ps)

-- the alternatives are in the table of patterns, and what is known of them is right
pub record IsLevelKept (trees : List (Simple ℕ)) (l : Level) : Type 0 where
  pub inside : All (IsInside trees) l.numbers.items
  pub good : IfSome l.good (λ bits. bits ≡ bits_of (nullable_in trees l.numbers.items))
  pub dead : l.dead ≡ list_all is_not_allowed (map (tree_of trees) l.numbers.items)
  pub tests : l.tests_strings ≡ list_any has_data (map (tree_of trees) l.numbers.items)

-- what the level's sample string leaves, this string leaves as well
abbrev pub IsLikeSample : Option Level → List ℕ → Type 0
IsLikeSample None s = ⊥
IsLikeSample (Some l) s = (s ≡ []) ⊎ (l.tests_strings ≡ false)

-- the second level has what is left of each alternative of the first, by `Is`
pub record IsAfterLevel (Is : Simple ℕ → Simple ℕ → Type 0) (trees : List (Simple ℕ)) (levels : List Level) (n : ℕ) (m : LevelNumber) : Type 0 where
  pub from : n < length levels
  pub to : m.0 < length levels
  pub after : AddsEach Is trees trees (numbers_in levels n) (numbers_in levels m.0)

-- the step is that of each name of its key
pub record IsStepKept (g : Reading) (keys : Keys) (trees : List (Simple ℕ)) (levels : List Level) (s : Step) : Type 0 where
  pub from : s.from.0 < length levels
  pub child : s.child.0 < length levels
  pub around : s.around ≡ length (numbers_in levels s.from.0)
  pub links : All (IsRestWithin trees s.around) s.links.items
  pub opened : (q : Name) → key_of keys q ≡ s.key.0
      → AddsOpened g q trees trees (numbers_in levels s.from.0) (numbers_in levels s.child.0) s.links.items

-- the level outside is what the ways out of the step leave, whichever tests have these bits
pub record IsEndKept (g : Reading) (trees : List (Simple ℕ)) (levels : List Level) (steps : List Step) (n : ℕ) (e : End) : Type 0 where
  pub step : Step
  pub at : slice_get steps n ≡ Some step
  pub outside : e.outside.0 < length levels
  pub ended : (good : List Bool) → bits_of good ≡ e.good
      → AddsEnded g good step.around trees trees step.links.items (numbers_in levels e.outside.0)

-- ---- all that is kept

pub record AreKept (g : Reading) (keys : Keys) (trees : List (Simple ℕ)) (t : LevelTable) : Type 0 where
  pub levels : All (IsLevelKept trees) (levels_in t)
  pub steps : All (IsStepKept g keys trees (levels_in t)) (steps_in t)
  pub closed : (n : ℕ) (m : LevelNumber) → IsKnownAt (closed_in t) n m → IsAfterLevel (IsAfterTag g []) trees (levels_in t) n m
  pub sampled : (n : ℕ) (m : LevelNumber) → IsKnownAt (sampled_in t) n m
      → IsAfterLevel (IsAfterText g (sample_in (levels_in t) n)) trees (levels_in t) n m
  pub ends : (n : ℕ) (e : End) → IsEndAt (ends_in t) n e → IsEndKept g trees (levels_in t) (steps_in t) n e

-- some items are added
abbrev pub Grows : {A : Type 0} → List A → List A → Type 0
Grows {A} old new = (more : List A) × (new ≡ old ++ more)

-- the table has grown, and all that it keeps is right
pub record AddsLevels (before : LevelTable) (g : Reading) (keys : Keys) (trees : List (Simple ℕ)) (after : LevelTable) : Type 0 where
  pub kept : AreKept g keys trees after
  pub levels : Grows (levels_in before) (levels_in after)
  pub steps : Grows (steps_in before) (steps_in after)

-- this is the number of the level of these alternatives
abbrev pub IsLevelOf : LevelTable → LevelNumber → List PatternNumber → Type 0
IsLevelOf t n ps = (n.0 < length (levels_in t)) × (numbers_in (levels_in t) n.0 ≡ ps)

-- the level has what is left of each of these alternatives, by `Is`, in tables that have grown
pub record AddsAfter (Is : Simple ℕ → Simple ℕ → Type 0) (old new : List (Simple ℕ)) (now : List PatternNumber) (t : LevelTable) (m : LevelNumber) : Type 0 where
  pub there : m.0 < length (levels_in t)
  pub after : AddsEach Is old new now (numbers_in (levels_in t) m.0)

-- the level has what the ways out of the step leave, when the good alternatives inside end
pub record AddsEndedLevel (g : Reading) (good : List Bool) (old new : List (Simple ℕ)) (s : Step) (t : LevelTable) (m : LevelNumber) : Type 0 where
  pub there : m.0 < length (levels_in t)
  pub ended : AddsEnded g good s.around old new s.links.items (numbers_in (levels_in t) m.0)

-- the same, when the alternatives that may end do so
pub record AddsOutside (g : Reading) (MayEnd : Simple ℕ → Type 0) (old new : List (Simple ℕ)) (now : List PatternNumber) (s : Step) (t : LevelTable)
    (m : LevelNumber) : Type 0 where
  pub good : List Bool
  pub which : AllZip (λ p b. (b ≡ true) ↔ MayEnd p) (map (tree_of old) now) good
  pub ended : AddsEndedLevel g good old new s t m

-- ---- tests of an element with only a string

-- which alternatives may end: those that are nullable after the string, and if it is blank those that were so before
abbrev pub ends_by : Bool → List Bool → List Bool → List Bool
ends_by blank [] after = []
ends_by blank (n ∷ now) [] = []
ends_by blank (n ∷ now) (a ∷ after) = (a || (n && blank)) ∷ ends_by blank now after

-- What a matcher knows of the open elements, as lists of numbers, and the level state that it represents.
use Rattle.std.specs.Prelude.{◌≡◌, ◌⊎◌, ℕ, List, [], ◌∷◌, All, fold, map, Bool}
use Rattle.rng_model.specs.simple.Tree.{Simple}
use Rattle.rng_model.specs.matching.GrammarMatching.{Reading}
use Rattle.rng_deriv_laws.specs.plain.LevelStates as level
use Rattle.rng_deriv_laws.specs.plain.LevelStates.{LevelState, AreEnded, EndsLevel}
use Rattle.rng_deriv_events.specs.views.Numbers.{Longer, IsInside, tree_of}
use Rattle.rng_deriv_events.specs.views.Levels.{link_of, IsRestWithin}
use Rattle.rng_deriv_table.specs.declared.pattern.PatternNumber.{PatternNumber}
use Rattle.rng_deriv_events.specs.declared.level_table.link.Link.{Link}

-- an open element: the number of alternatives around it, and the ways out into them
pub record OpenLevel : Type 0 where
  pub around : ℕ
  pub links : List Link

-- the alternatives for what remains of the innermost open element, and the open elements, the innermost last
pub record OpenState : Type 0 where
  pub now : List PatternNumber
  pub levels : List OpenLevel

abbrev pub with_level : List (Simple ℕ) → List (List level.Link) → OpenLevel → List (List level.Link)
with_level trees levels l = map (link_of trees) l.links ∷ levels

-- the levels as lists of links over trees, the innermost first
abbrev pub levels_of : List (Simple ℕ) → List OpenLevel → List (List level.Link)
levels_of trees levels = fold (with_level trees) [] levels

abbrev pub state_of : List (Simple ℕ) → OpenState → LevelState
state_of trees s = record { now = map (tree_of trees) s.now; levels = levels_of trees s.levels }

-- the links lead to alternatives around, and what they leave has a number of the table
abbrev pub IsLevelInside : List (Simple ℕ) → OpenLevel → Type 0
IsLevelInside trees l = All (IsRestWithin trees l.around) l.links

pub record IsStateInside (trees : List (Simple ℕ)) (s : OpenState) : Type 0 where
  pub now : All (IsInside trees) s.now
  pub levels : All (IsLevelInside trees) s.levels

-- the level state of the state satisfies `Is`, in a table that may have grown
pub record AddsState (Is : LevelState → Type 0) (old new : List (Simple ℕ)) (s : OpenState) : Type 0 where
  pub longer : Longer old new
  pub inside : IsStateInside new s
  pub is : Is (state_of new s)

-- an element ends, through the ways out of the good alternatives
pub record EndsLevelBy (g : Reading) (good : List Bool) (m n : LevelState) : Type 0 where
  pub links : List level.Link
  pub levels : m.levels ≡ links ∷ n.levels
  pub ended : AreEnded g good links n.now

-- an element ends so, or no element is open
abbrev pub EndsBy : Reading → List Bool → LevelState → LevelState → Type 0
EndsBy g good m n = (m.levels ≡ []) ⊎ EndsLevelBy g good m n

-- an element ends, through the ways out of the alternatives that may end; or no element is open
abbrev pub EndsIf : Reading → (Simple ℕ → Type 0) → LevelState → LevelState → Type 0
EndsIf g MayEnd m n = (m.levels ≡ []) ⊎ EndsLevel g MayEnd m n

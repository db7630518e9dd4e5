-- The lists of numbers that a position holds, and when what it keeps is right.
use Rattle.std.specs.Prelude.{◌≡◌, ⊤, ℕ, ◌<◌, List, [], ◌++◌, length, map, All, Bool, true, Option, Some, None, slice_get}
use Rattle.rng_names.specs.plain.Keys.{Keys}
use Rattle.rng_model.specs.simple.Tree.{Simple}
use Rattle.rng_model.specs.matching.GrammarMatching.{Reading}
use Rattle.rng_deriv_events.specs.views.LevelTable.{levels_in, numbers_in, steps_in}
use Rattle.rng_deriv_events.specs.declared.level_table.level.LevelNumber.{LevelNumber}
use Rattle.rng_deriv_events.specs.declared.level_table.table.LevelTable.{LevelTable}
use Rattle.rng_deriv_events.specs.declared.level_table.step.Step.{Step}
use Rattle.rng_deriv_events.specs.declared.level_table.step.StepNumber.{StepNumber}
use Rattle.rng_deriv_events.specs.views.KeptLevels.{AreKept}
use Rattle.rng_deriv_events.specs.views.States.{IsLevelInside, OpenLevel, OpenState}
use Rattle.rng_deriv_events.specs.views.Strings.{HeldString}
use Rattle.rng_deriv_events.specs.declared.held.Held.{Held}
use Rattle.rng_deriv_events.specs.declared.position.Position.{Position}
use Rattle.rng_deriv_events.specs.declared.state.State.{State}
use Rattle.rng_deriv_events.specs.declared.state.WaysOut.{WaysOut}

-- ---- what is held, as lists

abbrev pub open_level : WaysOut → OpenLevel
open_level w = record { around = w.around; links = w.links.items }

abbrev pub step_level : Option Step → OpenLevel
step_level None = record { around = 0; links = [] }
step_level (Some s) = record { around = s.around; links = s.links.items }

-- the open element of the step with this number
abbrev pub level_at : List Step → StepNumber → OpenLevel
level_at steps n = step_level (slice_get steps n.0)

abbrev pub open_state : State → OpenState
open_state s = record {
  now = numbers_in (levels_in s.table) s.now.0;
  levels = map open_level s.carried.items ++ map (level_at (steps_in s.table)) s.steps.items;
}

abbrev pub held_string : LevelTable → Held → HeldString
held_string t h = record { blank = h.blank; after = numbers_in (levels_in t) h.after.0 }

abbrev pub open_string : LevelTable → Option Held → Option HeldString
open_string t None = None
open_string t (Some h) = Some (held_string t h)

-- what is known between two events, as lists
pub record OpenPosition : Type 0 where
  pub state : OpenState
  pub has_begun : Bool
  pub held : Option HeldString

abbrev pub open_position : Position → OpenPosition
open_position p = record { state = open_state p.state; has_begun = p.has_begun; held = open_string p.state.table p.held }

-- the same position, from which on a start is kept after which nothing is left
abbrev pub keeping : Position → Position
keeping p = record { state = p.state; has_begun = p.has_begun; held = p.held; keeps_tag = true }

-- ---- what is kept is right

pub record IsStateKept (g : Reading) (keys : Keys) (trees : List (Simple ℕ)) (s : State) : Type 0 where
  pub kept : AreKept g keys trees s.table
  pub now : s.now.0 < length (levels_in s.table)
  pub carried : All (λ (w : WaysOut). IsLevelInside trees (open_level w)) s.carried.items
  pub steps : All (λ (n : StepNumber). n.0 < length (steps_in s.table)) s.steps.items

-- the string is held by a level of the table, with as many alternatives as this one
abbrev pub IsHeldKept : LevelTable → LevelNumber → Option Held → Type 0
IsHeldKept t now None = ⊤
IsHeldKept t now (Some h) = (h.after.0 < length (levels_in t)) × (length (numbers_in (levels_in t) now.0) ≡ length (numbers_in (levels_in t) h.after.0))

pub record IsPositionKept (g : Reading) (keys : Keys) (trees : List (Simple ℕ)) (p : Position) : Type 0 where
  pub state : IsStateKept g keys trees p.state
  pub held : IsHeldKept p.state.table p.state.now p.held

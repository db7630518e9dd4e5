-- What is left of the innermost open element.
use Rattle.std.specs.Prelude.{◌==◌, ◌&&◌, List, length, Bool, false, not, Option, Some, None, if◌then◌else◌}
use Rattle.rng_deriv_table.specs.declared.pattern.PatternNumber.{PatternNumber}
use Rattle.rng_deriv_events.specs.views.LevelTable.{levels_in, numbers_in}
use Rattle.rng_deriv_events.specs.declared.held.Held.{Held}
use Rattle.rng_deriv_events.specs.declared.left.Left.{Left}
use Rattle.rng_deriv_events.specs.declared.left.Mark.{Mark}
use Rattle.rng_deriv_events.specs.declared.level_table.level.Level.{Level}
use Rattle.rng_deriv_events.specs.declared.level_table.level.LevelNumber.{LevelNumber}
use Rattle.rng_deriv_events.specs.declared.position.Position.{Position}
use Rattle.rng_deriv_events.specs.declared.state.State.{State}

-- the alternatives for what remains of the innermost open element, given that no further string comes, those in place of
-- the string since the last tag, whether there is a child element, whether the string is not blank, and whether an element
-- is open at all
pub record LevelLeft : Type 0 where
  pub now : List PatternNumber
  pub in_place : List PatternNumber
  pub has_begun : Bool
  pub has_text : Bool
  pub is_open : Bool

abbrev pub level_left : List PatternNumber → List PatternNumber → Bool → Bool → Bool → LevelLeft
level_left now in_place has_begun has_text is_open =
    record { now = now; in_place = in_place; has_begun = has_begun; has_text = has_text; is_open = is_open }

-- an element is open
abbrev pub is_within : State → Bool
is_within s = not ((length s.carried.items == 0) && (length s.steps.items == 0))

-- the level behind the held string, given that an element is beside it: a blank string counts as nothing there (6.2.7)
abbrev pub settled_level : LevelNumber → Option Held → LevelNumber
settled_level now None = now
settled_level now (Some h) = if h.blank then now else h.after

-- a string that is not blank is held
abbrev pub has_text : Option Held → Bool
has_text None = false
has_text (Some h) = not h.blank

-- the mark of a position
abbrev pub mark_of : Position → Mark
mark_of p = record { level = p.state.now; string = p.held; has_begun = p.has_begun; is_open = is_within p.state }

-- what is left at a mark, by the levels of a table
abbrev pub marked : List Level → Mark → LevelLeft
marked levels m = level_left (numbers_in levels (settled_level m.level m.string).0) (numbers_in levels m.level.0) m.has_begun (has_text m.string) m.is_open

abbrev pub level_in : Position → LevelLeft
level_in p = marked (levels_in p.state.table) (mark_of p)

abbrev pub left_of : Left → LevelLeft
left_of l = level_left l.alternatives.items l.in_place.items l.has_begun l.has_text l.is_open

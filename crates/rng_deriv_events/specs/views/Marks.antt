-- Places of a matcher, by the levels of a table.
use Rattle.std.specs.Prelude.{◌≡◌, ◌↔◌, ℕ, ◌<◌, List, [], length, map, true}
use Rattle.rng_model.specs.matching.GrammarMatching.{Reading}
use Rattle.rng_model.specs.simple.Tree.{Simple}
use Rattle.rng_deriv_laws.specs.plain.LevelEvents.{LevelMatcher}
use Rattle.rng_deriv_events.specs.views.LevelTable.{levels_in, numbers_in}
use Rattle.rng_deriv_events.specs.views.Numbers.{tree_of}
use Rattle.rng_deriv_events.specs.views.OpenPositions.{IsHeldKept, open_string}
use Rattle.rng_deriv_events.specs.views.Strings.{IsHeld}
use Rattle.rng_deriv_events.specs.declared.left.Mark.{Mark}
use Rattle.rng_deriv_events.specs.declared.level_table.table.LevelTable.{LevelTable}

-- the level and the string of the mark are in the table
abbrev pub IsMarkKept : LevelTable → Mark → Type 0
IsMarkKept t k = (k.level.0 < length (levels_in t)) × IsHeldKept t k.level k.string

-- the mark is the place of this matcher of levels, by the levels of a table
pub record IsMarkOf (g : Reading) (trees : List (Simple ℕ)) (t : LevelTable) (k : Mark) (m : LevelMatcher) : Type 0 where
  pub now : m.state.now ≡ map (tree_of trees) (numbers_in (levels_in t) k.level.0)
  pub is_open : (k.is_open ≡ true) ↔ ¬ (m.state.levels ≡ [])
  pub has_begun : m.has_begun ≡ k.has_begun
  pub held : IsHeld g trees (numbers_in (levels_in t) k.level.0) (open_string t k.string) m.held

-- What every automaton has.
use Rattle.std.specs.Prelude.{ℕ, ◌<◌, ◌≤◌, List, length, Bool}
use Rattle.xsd_regex.specs.plain.Positions.{Position}
use Rattle.xsd_automaton.specs.plain.Closures.{AreWithin}
use Rattle.xsd_automaton.specs.declared.sets.SetRow.{SetRow}
use Rattle.xsd_automaton.specs.views.Sets.{AreTables}

pub record IsAutomaton (first : ℕ) (ps : List Position) (rows : List SetRow) (ends : List Bool) : Type 0 where
  pub within : AreWithin ps
  pub few : length ps < 12289
  pub begins : first ≤ length ps
  pub tables : AreTables ps first rows ends

-- The rows of a table of sets.
use Rattle.std.specs.Prelude.{◌≡◌, ℕ, ◌<◌, ◌≤◌, List, [], length, map, Bool, Some, slice_get}
use Rattle.std.specs.Prelude.{Vec}
use Rattle.xsd_automaton.specs.declared.found_sets.FoundSets.{FoundSets}
use Rattle.xsd_regex.specs.plain.Positions.{Position}
use Rattle.xsd_automaton.specs.declared.sets.SetRow.{SetRow}
use Rattle.xsd_automaton.specs.plain.Closures.{LeadsTo}
use Rattle.xsd_automaton.specs.plain.Sets.{members_at, AreEnds, AreSets, IsRow}

-- the first sets have rows
abbrev pub AreRows : List Position → List (List ℕ) → List SetRow → Type 0
AreRows ps sets rows = (i : ℕ) (row : SetRow) → slice_get rows i ≡ Some row → IsRow ps sets i row.targets

-- The first set is what the first position leads to. Where no set has a row, the positions serve.
pub record IsSetTable (ps : List Position) (first : ℕ) (rows : List SetRow) : Type 0 where
  pub sets : List (List ℕ)
  pub are : AreSets ps sets
  pub many : length rows ≤ length sets
  pub start : LeadsTo ps first [] (members_at sets 0)
  pub each : AreRows ps sets rows

-- rows, and whether the end is in the sets that have one
pub record AreTables (ps : List Position) (first : ℕ) (rows : List SetRow) (ends : List Bool) : Type 0 where
  pub table : IsSetTable ps first rows
  pub as_many : length ends ≡ length rows
  pub each_end : AreEnds ps table.sets ends

abbrev pub lists_of : {A : Type 0} → List (Vec ℕ A) → List (List ℕ)
lists_of vs = map (λ v. v.items) vs

abbrev pub sets_of : FoundSets → List (List ℕ)
sets_of f = lists_of f.sets.items

-- the text so far leads to the set, if the set has a row
pub record LeadsToSet (ps : List Position) (first : ℕ) (rows : List SetRow) (table : IsSetTable ps first rows) (set : ℕ) (read : List ℕ) : Type 0 where
  pub row : set < length rows → LeadsTo ps first read (members_at table.sets set)

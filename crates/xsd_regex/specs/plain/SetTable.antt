-- A table of the sets of states that texts lead to, for characters in groups.
use Rattle.std.specs.Prelude.{◌≡◌, ℕ, ◌<◌, List, [], ◌∷◌, length, Bool, true, false, slice_index_or}
use Rattle.xsd_regex.specs.plain.StateTable.{StateRow, step_rows, one_ends, AreSame}

-- A row for each set: the numbers of its states, the set behind a character of each group, and whether one of its
-- states accepts the empty text.
pub record SetRow : Type 0 where
  pub members : List ℕ
  pub targets : List ℕ
  pub is_end : Bool

abbrev pub set_at : List SetRow → ℕ → SetRow
set_at sets i = slice_index_or sets i (record { members = []; targets = []; is_end = false })

-- the number of the set behind a character of the group
abbrev pub target_at : List SetRow → ℕ → ℕ → ℕ
target_at sets i g = slice_index_or (set_at sets i).targets g 0

-- The characters that are known have groups. Behind another one the run goes on over the states.
module _ (rows : List StateRow) (is_known : ℕ → Bool) (group : ℕ → ℕ) where
  pub record IsSetRow (sets : List SetRow) (i : ℕ) : Type 0 where
    pub ends : (set_at sets i).is_end ≡ one_ends rows (set_at sets i).members
    pub within : (c : ℕ) → is_known c ≡ true → target_at sets i (group c) < length sets
    pub steps : (c : ℕ) → is_known c ≡ true → AreSame (set_at sets (target_at sets i (group c))).members (step_rows rows (set_at sets i).members c)

  pub record IsSetTable (start : ℕ) (sets : List SetRow) : Type 0 where
    pub some : 0 < length sets
    pub first : AreSame (set_at sets 0).members (start ∷ [])
    pub each : (i : ℕ) → i < length sets → IsSetRow sets i

-- the number of the set that a text of known characters leads to
unfoldable pub run_sets : (ℕ → ℕ) → List SetRow → ℕ → List ℕ → ℕ
run_sets group sets i [] = i
run_sets group sets i (c ∷ s) = run_sets group sets (target_at sets i (group c)) s

-- Heads of rows: a row meets itself exactly if its head does. Private contracts cite them.
use Rattle.std.specs.Prelude.{◌≡◌, ◌↔◌, ◌<◌, ◌≤◌, ◌==◌, ℕ, List, [], ◌∷◌, length, slice_index_or, Option, Some, None, Bool, false}
use Rattle.rng_rules.specs.declared.names_meet_sides.Rows as declared
use Rattle.rng_rules.specs.plain.NamesMeetReach.{lists}
use Rattle.rng_rules.specs.views.NamesMeetSides.{IsJoin, MeetBetween}

-- the row occurs on both sides of another
abbrev pub MeetsItself : declared.Rows → ℕ → Type 0
MeetsItself rows k = MeetBetween rows.of rows.grammar.now (lists rows.above.items) (k ∷ []) (k ∷ [])

pub record IsHead (rows : declared.Rows) (k head : ℕ) : Type 0 where
  pub below : head < length rows.standing.items
  pub same : MeetsItself rows k ↔ MeetsItself rows head

-- the heads of all rows except the first n
abbrev pub AreHeadsFrom : declared.Rows → ℕ → List ℕ → Type 0
AreHeadsFrom rows n heads = (k : ℕ) → n ≤ k → k < length heads → IsHead rows k (slice_index_or heads k 0)

abbrev pub AreHeads : declared.Rows → List ℕ → Type 0
AreHeads rows heads = (k : ℕ) → k < length heads → IsHead rows k (slice_index_or heads k 0)

-- k is a direct part of p and of no other row, and is not both sides of p
pub record IsOnlyAbove (rows : declared.Rows) (k p : ℕ) : Type 0 where
  pub after : k < p
  pub below : p < length rows.standing.items
  pub only : slice_index_or (lists rows.above.items) k [] ≡ p ∷ []
  pub apart : IsJoin rows.of rows.grammar.now p k k → ⊥

-- ---- tests

abbrev pub are_equal : Option (ℕ × ℕ) → Bool
are_equal None = false
are_equal (Some s) = s.0 == s.1

-- Copies of a pattern, one after the other, and what is after them.
use Rattle.std.specs.Prelude.{◌≡◌, ◌⊎◌, ◌<◌, ◌-◌, ◌^◌, ◌++◌, ◌∷◌, [], ℕ, List, Some, length, slice_get}
use Rattle.rng_model.specs.simple.Table.{Table}
use Rattle.rng_model.specs.simple.Tree.{Simple, group, s_joined}
use Rattle.rng_deriv_laws.specs.plain.Derivatives.{joined_of}
use Rattle.rng_deriv_table.specs.views.Node.{Node}
use Rattle.rng_deriv_table.specs.views.Trees.{tree_of}

-- one copy, or a group of copies
pub data AreCopies (copy : Simple ℕ) : Simple ℕ → Type 0 where
  one : {p : Simple ℕ} → p ≡ copy → AreCopies copy p
  both : {p q : Simple ℕ} → AreCopies copy p → AreCopies copy q → AreCopies copy (s_joined group p q)

-- a pattern, and what is left of it without some copies at the front
pub data IsBehindCopies (copy whole : Simple ℕ) : Simple ℕ → Type 0 where
  nothing_before : {rest : Simple ℕ} → rest ≡ whole → IsBehindCopies copy whole rest
  copies_before : {front rest : Simple ℕ} → AreCopies copy front → IsBehindCopies copy whole (s_joined group front rest)
      → IsBehindCopies copy whole rest

-- a pattern that consists only of such copies
abbrev pub IsOfCopies : Simple ℕ → Simple ℕ → Type 0
IsOfCopies copy whole = (rest : Simple ℕ) × IsBehindCopies copy whole rest × AreCopies copy rest

-- the sides of a group of p and q after its first side is reassociated to the right some times
pub data IsOpened (p q : Simple ℕ) : Simple ℕ → Simple ℕ → Type 0 where
  as_it_is : {front rest : Simple ℕ} → front ≡ p → rest ≡ q → IsOpened p q front rest
  once_more : {outer inner behind rest : Simple ℕ} → IsOpened p q (s_joined group outer inner) behind → rest ≡ joined_of group inner behind
      → IsOpened p q outer rest

-- the value that is kept as the unit of a pattern: none, or the number of a pattern of which it is copies
abbrev pub IsUnit : List Node → (Table → Simple ℕ) → ℕ → Type 0
IsUnit ns whole unit = (unit ≡ 2 ^ 32 - 1) ⊎ ((unit < length ns) × ((t : Table) → AreCopies (tree_of t ns unit) (whole t)))

-- the units of the first patterns
abbrev pub AreUnits : List Node → List ℕ → Type 0
AreUnits ns units = (i unit : ℕ) → slice_get units i ≡ Some unit → (i < length ns) × IsUnit ns (λ t. tree_of t ns i) unit

-- the unit of this pattern is appended, if it is the next one
abbrev pub IsKeptLast : List ℕ → List ℕ → ℕ → ℕ → Type 0
IsKeptLast old new number unit = (new ≡ old) ⊎ ((length old ≡ number) × (new ≡ old ++ unit ∷ []))

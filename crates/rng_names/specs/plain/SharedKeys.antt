-- Keys that names share.
use Rattle.std.specs.Prelude.{◌≡◌, ◌⊎◌, ◌<◌, ◌+◌, ◌++◌, ◌∷◌, [], ℕ, List, length, slice_get, slice_index_or, Some}
use Rattle.std.specs.Map.{lookup}
use Rattle.std.specs.Str.{bytes_eq}
use Rattle.rng_model.specs.names.Names.{Name}
use Rattle.rng_names.specs.plain.Holding.{pair}
use Rattle.rng_names.specs.plain.WrittenNames.{seen_numbers}
use Rattle.rng_names.specs.declared.shared_keys.SharedKeys.{SharedKeys}
use Rattle.rng_names.specs.declared.shared_keys.Sharing as declared

-- the region of each name, for each namespace the place of a name, the key of each place, and the place of each
-- representative
pub record Sharing : Type 0 where
  pub regions : List ℕ
  pub newest : List (List ℕ × ℕ)
  pub keys : List ℕ
  pub leaders : List ℕ

abbrev pub sharing_in : declared.Sharing → Sharing
sharing_in s = record { regions = s.regions.now; newest = seen_numbers s.newest.entries; keys = s.keys.items; leaders = s.leaders.items }

-- the next place has a key of its own
abbrev pub leading : Sharing → Sharing
leading s = record { regions = s.regions; newest = s.newest; keys = s.keys ++ length s.leaders ∷ []; leaders = s.leaders ++ length s.keys ∷ [] }

-- the next place has this key
abbrev pub following : ℕ → Sharing → Sharing
following key s = record { regions = s.regions; newest = s.newest; keys = s.keys ++ key ∷ []; leaders = s.leaders }

-- the key of a name of the namespace that has this region
pub record IsKeyIn (s : Sharing) (u : List ℕ) (region : ℕ) (key : ℕ) : Type 0 where
  pub place : ℕ
  pub newest : lookup (bytes_eq u) s.newest ≡ Some place
  pub in_region : slice_index_or s.regions place 0 ≡ region
  pub at : slice_get s.keys place ≡ Some key

-- at both places are names of one namespace, which are written only in one region
pub record SameRegion (names : List Name) (regions : List ℕ) (j : ℕ) (k : ℕ) : Type 0 where
  pub ns : List ℕ
  pub local : List ℕ
  pub local' : List ℕ
  pub region : ℕ
  pub counts : 0 < region
  pub at : slice_get names j ≡ Some (pair ns local)
  pub at' : slice_get names k ≡ Some (pair ns local')
  pub in_region : slice_get regions j ≡ Some region
  pub in_region' : slice_get regions k ≡ Some region

-- the key of a place is represented by its name, or by one of the same region
abbrev pub IsLed : List Name → List ℕ → List ℕ → ℕ → ℕ → Type 0
IsLed names regions leaders k key = (p : ℕ) × (slice_get leaders key ≡ Some p) × ((p ≡ k) ⊎ SameRegion names regions p k)

-- the keys of the first places
pub record AreMade (names : List Name) (s : Sharing) : Type 0 where
  pub newest : (u : List ℕ) (p : ℕ) → lookup (bytes_eq u) s.newest ≡ Some p → (p < length s.keys) × (l : List ℕ) × (slice_get names p ≡ Some (pair u l))
  pub led : (k key : ℕ) → slice_get s.keys k ≡ Some key → IsLed names s.regions s.leaders k key
  pub own : (key p : ℕ) → slice_get s.leaders key ≡ Some p → slice_get s.keys p ≡ Some key

-- the next place, which has this name, gets a key
pub record AddsPlace (q : Name) (old : Sharing) (new : Sharing) : Type 0 where
  pub regions : new.regions ≡ old.regions
  pub count : length new.keys ≡ length old.keys + 1
  pub made : (names : List Name) → slice_get names (length old.keys) ≡ Some q → AreMade names old → AreMade names new

-- each name has a key, and each key a representative, whose place has it
pub record AreShared (names : List Name) (all : SharedKeys) : Type 0 where
  pub count : length all.keys.items ≡ length names
  pub led : (k key : ℕ) → slice_get all.keys.items k ≡ Some key → key < length all.leaders.items
  pub own : (key p : ℕ) → slice_get all.leaders.items key ≡ Some p → slice_get all.keys.items p ≡ Some key

abbrev pub AreLed : List Name → List ℕ → SharedKeys → Type 0
AreLed names regions all = (k key : ℕ) → slice_get all.keys.items k ≡ Some key → IsLed names regions all.leaders.items k key

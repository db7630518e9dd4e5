-- Slots of names: equal names have the same slot.
use Rattle.std.specs.Prelude.{◌≡◌, ℕ, ◌*◌, ◌/◌, ◌%◌, ◌^◌, List, Bool, false, true, bit_xor, slice_index_or}
use Rattle.std.specs.List.{AllByRecursion, fold}

-- one byte more
abbrev pub hashed : ℕ → ℕ → ℕ
hashed sum byte = bit_xor sum byte * 16777619 % 2 ^ 32

unfoldable pub hash_of : List ℕ → ℕ
hash_of bytes = fold hashed 0 bytes / 2 ^ 8

abbrev pub slot_of : List ℕ → ℕ
slot_of local = hash_of local % 4096

-- the slot of this name is set
abbrev pub is_met : List Bool → List ℕ → Bool
is_met slots local = slice_index_or slots (slot_of local) false

-- the slots of all names are set
abbrev pub AreAllMet : List Bool → List (List ℕ) → Type 0
AreAllMet slots names = AllByRecursion (λ name. is_met slots name ≡ true) names

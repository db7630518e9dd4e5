-- How many bytes declarations have, as they are counted.
use Rattle.std.specs.Prelude.{ℕ, ◌+◌, ◌-◌, ◌^◌, min, List, [], ◌∷◌, length}
use Rattle.rng_model.specs.documents.PyxHeld.{name_length}
use Rattle.rng_model.specs.documents.PyxNamespaces.{WrittenAttribute}

-- a sum, or the greatest number of 64 bits
abbrev pub plus : ℕ → ℕ → ℕ
plus a b = min (a + b) (2 ^ 64 - 1)

-- names as they are written, and values with escapes replaced
unfoldable pub declarations_held : List WrittenAttribute → ℕ
declarations_held [] = 0
declarations_held (a ∷ more) = plus (plus (name_length a.name) (length a.content)) (declarations_held more)

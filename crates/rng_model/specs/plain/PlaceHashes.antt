-- Hashes of the numbers that lead to a place.
use Rattle.std.specs.Prelude.{ℕ, ◌*◌, ◌%◌, ◌^◌, List, bit_xor}
use Rattle.std.specs.List.{fold}

-- one number more
abbrev pub hashed : ℕ → ℕ → ℕ
hashed sum number = bit_xor sum number * 1099511628211 % 2 ^ 64

-- The hash of some numbers. It does not begin with 0, since then it would not depend on how many zeros are first.
unfoldable pub place_hash : List ℕ → ℕ
place_hash numbers = fold hashed 14695981039346656037 numbers

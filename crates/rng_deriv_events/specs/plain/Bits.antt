-- Tests as the bits of a number.
use Rattle.std.specs.Prelude.{ℕ, ◌+◌, List, [], ◌∷◌, Bool, true, false}

-- the number with one more bit below the others
abbrev pub with_bit : ℕ → Bool → ℕ
with_bit above true = above + above + 1
with_bit above false = above + above

-- the first test is the lowest bit
abbrev pub bits_of : List Bool → ℕ
bits_of [] = 0
bits_of (b ∷ bs) = with_bit (bits_of bs) b

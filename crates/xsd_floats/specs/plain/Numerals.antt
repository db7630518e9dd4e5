-- What a number begins with.
use Rattle.std.specs.Prelude.{ℕ, List, [], ◌∷◌, Bool, false, ◌||◌, ◌==◌}
use Rattle.std.specs.Char.{is_ascii_digit}

-- a digit or a point
abbrev pub begins_number : List ℕ → Bool
begins_number [] = false
begins_number (c ∷ s) = is_ascii_digit c || (c == 0x2E)

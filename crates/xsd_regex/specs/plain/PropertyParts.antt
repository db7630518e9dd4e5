-- The names of properties in parts, each of which is looked through on its own.
use Rattle.std.specs.Prelude.{ℕ, ◌*◌, List, take, drop}
use Rattle.rng_model.specs.regexes.Expressions.{Class}
use Rattle.rng_model.specs.regexes.Properties.{category_names, block_names}

-- the general categories of letters and marks, of numbers and punctuation, and the rest
abbrev pub letter_names : List (List ℕ × Class)
letter_names = take 10 category_names

abbrev pub number_names : List (List ℕ × Class)
number_names = take 12 (drop 10 category_names)

abbrev pub other_names : List (List ℕ × Class)
other_names = drop 22 category_names

-- sixteen blocks
abbrev pub block_part : ℕ → List (List ℕ × Class)
block_part n = take 16 (drop (16 * n) block_names)

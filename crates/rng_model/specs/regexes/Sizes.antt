-- The size of an expression, and the greatest that is taken.
use Rattle.std.specs.Prelude.{ℕ, suc, ◌+◌, ◌*◌, max, Option, Some, None}
use Rattle.rng_model.specs.regexes.Expressions.{Regex, nothing_more, one_of, both, either, times}

-- How often a part is written with its count written out. A part that may occur any number of times is written once more
-- than it has to occur, and a part that does not occur counts as one that occurs once.
abbrev pub most_copies : ℕ → Option ℕ → ℕ
most_copies n None = suc n
most_copies n (Some m) = max m 1

-- How many characters, classes and empty branches an expression has with its counts written out, and one more for each
-- quantifier. It is at least the size of each part.
unfoldable pub size : Regex → ℕ
size nothing_more = 1
size (one_of k) = 1
size (both a b) = size a + size b
size (either a b) = size a + size b
size (times n m a) = suc (most_copies n m * size a)

-- the greatest size that is taken
abbrev pub most_size : ℕ
most_size = 4096

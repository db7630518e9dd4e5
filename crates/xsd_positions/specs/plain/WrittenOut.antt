-- Expressions with their counts written out: of the counts, only "any number of times" is left.
use Rattle.std.specs.Prelude.{ℕ, zero, suc, ◌-◌, Option, Some, None, if◌then◌else◌, nat_le}
use Rattle.rng_model.specs.regexes.Expressions.{no_char, Regex, nothing_more, one_of, both, either, times}

-- so many copies, one after the other, and then the rest
unfoldable pub copies_then : ℕ → Regex → Regex → Regex
copies_then zero a rest = rest
copies_then (suc n) a rest = both a (copies_then n a rest)

-- at most so many copies
unfoldable pub at_most : ℕ → Regex → Regex
at_most zero a = nothing_more
at_most (suc n) a = either nothing_more (both a (at_most n a))

-- Copies as a quantifier has them. Nothing occurs at least so often, and at most less often.
abbrev pub counted : ℕ → Option ℕ → Regex → Regex
counted n None a = copies_then n a (times 0 None a)
counted n (Some m) a = if nat_le n m then copies_then n a (at_most (m - n) a) else one_of no_char

unfoldable pub written_out : Regex → Regex
written_out nothing_more = nothing_more
written_out (one_of k) = one_of k
written_out (both a b) = both (written_out a) (written_out b)
written_out (either a b) = either (written_out a) (written_out b)
written_out (times n m a) = counted n m (written_out a)

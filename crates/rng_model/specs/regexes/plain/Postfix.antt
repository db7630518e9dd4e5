-- An expression as rows, each part before what it is a part of.
use Rattle.std.specs.Prelude.{ℕ, List, [], ◌∷◌, ◌++◌, Option}
use Rattle.rng_model.specs.regexes.Expressions.{Class, Regex, nothing_more, one_of, both, either, times}

pub data Row : Type 0 where
  nothing_row : Row
  class_row : Class → Row
  -- of the last two parts
  both_row either_row : Row
  -- of the last part: at least so often, and at most so often, if there is a limit
  times_row : ℕ → Option ℕ → Row

unfoldable pub postfix : Regex → List Row
postfix nothing_more = nothing_row ∷ []
postfix (one_of k) = class_row k ∷ []
postfix (both a b) = postfix a ++ (postfix b ++ both_row ∷ [])
postfix (either a b) = postfix a ++ (postfix b ++ either_row ∷ [])
postfix (times n m a) = postfix a ++ times_row n m ∷ []

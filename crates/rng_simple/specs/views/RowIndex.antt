-- Rows with an index of their numbers.
use Rattle.std.specs.Prelude.{◌≡◌, ◌↔◌, ℕ, List, [], ◌∷◌, ◌++◌, slice_get, Option, Some, None}
use Rattle.std.specs.HashMap.{HashMap, get}
use Rattle.rng_simple.specs.declared.rows.Row.{Row}
use Rattle.rng_simple.specs.contracts.rows.RowPartialEq.TheImpl as same

-- the number of a row, if it has one
abbrev pub number_of_row : {S : Type 0} → HashMap Row ℕ S → Row → Option ℕ
number_of_row numbers q = get same.ghosts.eq numbers q

-- the index has exactly the rows of the list, each with its number; so the rows are distinct
abbrev pub IsIndex : {S : Type 0} → List Row → HashMap Row ℕ S → Type 0
IsIndex rows numbers = (q : Row) (i : ℕ) → number_of_row numbers q ≡ Some i ↔ slice_get rows i ≡ Some q

-- the rows with this one, which is last if it is new
abbrev pub with_row : List Row → Row → Option ℕ → List Row
with_row rows r (Some i) = rows
with_row rows r None = rows ++ r ∷ []

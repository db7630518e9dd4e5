-- A text of which a part is read, and the rest of which is still to be treated.
use Rattle.std.specs.Prelude.{◌≡◌, ℕ, List, ◌++◌}
use Rattle.std.specs.Str.{chars}

-- what is read leads to where the run is, and what is left follows it
pub record IsRead (Leads : List ℕ → Type 0) (whole left : List ℕ) : Type 0 where
  pub read : List ℕ
  pub leads : Leads read
  pub parts : whole ≡ read ++ chars left

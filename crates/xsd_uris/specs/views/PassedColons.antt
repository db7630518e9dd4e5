-- How far a text was searched for `::`.
use Rattle.std.specs.Prelude.{◌≡◌, ◌≤◌, ℕ, List, ◌++◌, length}
use Rattle.xsd_uris.specs.plain.UriShapes.{before_double, behind_double}

-- none begins before the rest
pub record PassedTo (s rest : List ℕ) : Type 0 where
  pub front : List ℕ
  pub parts : s ≡ front ++ rest
  pub within : length rest ≤ length s
  pub before : before_double s ≡ front ++ before_double rest
  pub behind : behind_double s ≡ behind_double rest

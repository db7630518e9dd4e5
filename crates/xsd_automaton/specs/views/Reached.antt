-- Numbers that are marked, and a list of them.
use Rattle.std.specs.Prelude.{◌≡◌, ℕ, ◌+◌, List, length, Bool, false, if◌then◌else◌, slice_index_or}
use Rattle.std.specs.List.{sum_by}
use Rattle.xsd_automaton.specs.plain.Closures.{has_number}

abbrev pub blank : Bool → ℕ
blank is_marked = if is_marked then 0 else 1

-- a number is marked exactly if it is in the list, which has each once
pub record AreMarked (most : ℕ) (marks : List Bool) (is : List ℕ) : Type 0 where
  pub as_many : length marks ≡ most
  pub marked : (i : ℕ) → slice_index_or marks i false ≡ has_number is i
  pub room : length is + sum_by blank marks ≡ most

-- Patterns and members of choices that contain none of the candidates.
use Rattle.std.specs.Prelude.{◌≡◌, ◌<◌, ◌≤◌, ◌+◌, ℕ, List, [], Option, Some, None, length, slice_get}
use Rattle.rng_model.specs.simple.Table.{Table}
use Rattle.rng_deriv_table.specs.views.Node.{Node}
use Rattle.rng_deriv_table.specs.views.Trees.{tree_of}
use Rattle.rng_deriv_table.specs.declared.pattern.PatternNumber.{PatternNumber}
use Rattle.rng_deriv_ways.specs.plain.Takers.{AreCandidates}
use Rattle.rng_deriv_ways.specs.plain.Ways.{AreWaysOf}
use Rattle.rng_deriv_ways.specs.declared.way.Candidates.{Candidates}
use Rattle.rng_deriv_ways.specs.declared.way.Kind.{Kind}

-- the pattern of this number has no ways
abbrev pub IsIdle : List Node → Candidates → ℕ → Type 0
IsIdle ns candidates n = (t : Table) (kind : Kind) → AreCandidates t ns kind candidates → AreWaysOf t ns kind (tree_of t ns n) []

-- the members from this position up to the other one have none
abbrev pub AreIdle : List Node → Candidates → List ℕ → ℕ → ℕ → Type 0
AreIdle ns candidates ms from end = (k m : ℕ) → from ≤ k → k < end → slice_get ms k ≡ Some m → IsIdle ns candidates m

-- the next member from this position on, with the position behind it, where those before it have no ways; or else all from
-- there on have none
abbrev pub IsNext : List Node → Candidates → List ℕ → ℕ → Option (ℕ × PatternNumber) → Type 0
IsNext ns candidates ms from None = AreIdle ns candidates ms from (length ms)
IsNext ns candidates ms from (Some next) = (i : ℕ) × (next.0 ≡ i + 1) × (from ≤ i) × (slice_get ms i ≡ Some next.1.0) × AreIdle ns candidates ms from i

-- the candidates are right for something that comes first
abbrev pub AreRight : List Node → Candidates → Type 0
AreRight ns candidates = (t : Table) × (kind : Kind) × AreCandidates t ns kind candidates

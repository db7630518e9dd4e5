-- How many bytes are kept, as they are counted.
use Rattle.std.specs.Prelude.{◌≡◌, ◌≤◌, ℕ, List, None}
use Rattle.rng_model.specs.documents.PyxHeld.{KeptOf}
use Rattle.rng_model.specs.documents.PyxTrees.{Event}
use Rattle.pyx.specs.views.ReaderAfterPiece.{Kept, Stands}

abbrev pub held_limit : ℕ
held_limit = 8641445888

-- for all bytes that a reader represents: this many are kept of them, unless they have a fault, and never more than the
-- limit
abbrev pub IsHeld : Kept → ℕ → Type 0
IsHeld k n = (bytes : List ℕ) (sent : List Event) → Stands k bytes sent → (k.fault ≡ None → KeptOf bytes n) × (n ≤ held_limit)

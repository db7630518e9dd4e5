-- Masks of bytes.
use Rattle.std.specs.Prelude.{◌≡◌, ◌↔◌, ℕ, ◌+◌, ◌<◌, List, slice_index}
use Rattle.std.specs.Int.{bit_at}

-- a mask of the 16 bytes from a place on: a bit is set if its byte is this one
abbrev pub IsMask : ℕ → List ℕ → ℕ → ℕ → Type 0
IsMask b bytes from mask = (k : ℕ) → k < 16 → (bit_at mask k ≡ 1) ↔ (slice_index bytes (from + k) ≡ b)

-- The characters that bytes of UTF-8 begin.
use Rattle.std.specs.Prelude.{ℕ, ◌<◌, ◌≤◌, List, [], ◌∷◌}

-- A byte of ASCII is a character. Each other character begins with a byte from 192 on, and its further bytes are below
-- (RFC 3629, section 3).
pub data AreBegun : List ℕ → List ℕ → Type 0 where
  no_bytes : AreBegun [] []
  of_ascii : {b : ℕ} {bs cs : List ℕ} → b < 128 → AreBegun bs cs → AreBegun (b ∷ bs) (b ∷ cs)
  of_past : {b c : ℕ} {bs cs : List ℕ} → 192 ≤ b → 128 ≤ c → AreBegun bs cs → AreBegun (b ∷ bs) (c ∷ cs)
  of_further : {b : ℕ} {bs cs : List ℕ} → 128 ≤ b → b < 192 → AreBegun bs cs → AreBegun (b ∷ bs) cs

-- Where a text is cut, from left to right.
use Rattle.std.specs.Prelude.{ℕ, ◌==◌, if◌then◌else◌, List, [], ◌∷◌, Option, Some, None}

-- the bytes after the first one, if that is this byte
abbrev pub behind : ℕ → List ℕ → Option (List ℕ)
behind k [] = None
behind k (c ∷ cs) = if c == k then Some cs else None

abbrev pub either_way : {A B : Type 0} → Option A → B → (A → B) → B
either_way None b f = b
either_way (Some a) b f = f a

-- the bytes before the first of this byte, and those after it
abbrev pub at_front : ℕ → Option (List ℕ × List ℕ) → Option (List ℕ × List ℕ)
at_front c None = None
at_front c (Some p) = Some (c ∷ p.0, p.1)

unfoldable pub at_byte : ℕ → List ℕ → Option (List ℕ × List ℕ)
at_byte k [] = None
at_byte k (c ∷ cs) = if c == k then Some ([], cs) else at_front c (at_byte k cs)

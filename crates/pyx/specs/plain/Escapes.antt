-- What the escapes of a text represent.
use Rattle.std.specs.Prelude.{ℕ, ◌==◌, if◌then◌else◌, List, [], ◌∷◌, ◌++◌, Option, Some, None}

-- after a backslash: the character that the escape represents, and the rest
abbrev pub escape_of : List ℕ → Option (ℕ × List ℕ)
escape_of [] = None
escape_of (c ∷ cs) = if c == 110 then Some (10, cs) else (if c == 116 then Some (9, cs) else (if c == 92 then Some (92, cs) else None))

-- with this in front, if there is something
abbrev pub in_front : List ℕ → Option (List ℕ) → Option (List ℕ)
in_front front None = None
in_front front (Some rest) = Some (front ++ rest)

-- the characters of a text with its escapes replaced
unfoldable mutual
  pub unescaped : List ℕ → Option (List ℕ)
  unescaped [] = Some []
  unescaped (c ∷ cs) = if c == 92 then escaped cs else in_front (c ∷ []) (unescaped cs)

  pub escaped : List ℕ → Option (List ℕ)
  escaped [] = None
  escaped (c ∷ cs) = if c == 110 then in_front (10 ∷ []) (unescaped cs) else (if c == 116 then in_front (9 ∷ []) (unescaped cs)
      else (if c == 92 then in_front (92 ∷ []) (unescaped cs) else None))

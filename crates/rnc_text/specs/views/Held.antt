-- The characters that a `Text` represents: the decoded text, and which of its LFs are written as escapes.
use Rattle.std.specs.Prelude.{◌≡◌, ℕ, ◌-◌, List, [], ◌∷◌, Option, Some, None, length, ◌==◌, if◌then◌else◌}
use Rattle.std.specs.Str.{chars, encode_utf8_all}
use Rattle.rnc_model.specs.declared.character.Character.{Character}
use Rattle.rnc_model.specs.declared.character.Character.TheVariants.{LineEnd, Ordinary}

-- an LF without a mark is a line end
abbrev pub unmarked : ℕ → Character
unmarked c = if c == 0xA then LineEnd else Ordinary c

-- The characters with these numbers, at the end of a text of `whole` bytes. The marks are the offsets of the LFs that
-- are no line ends, in order.
unfoldable pub marked : ℕ → List ℕ → List ℕ → List Character
marked whole marks [] = []
marked whole [] (c ∷ cs) = unmarked c ∷ marked whole [] cs
marked whole (m ∷ marks) (c ∷ cs) =
    if m == whole - length (encode_utf8_all (c ∷ cs)) then Ordinary c ∷ marked whole marks cs else unmarked c ∷ marked whole (m ∷ marks) cs

-- the marks that remain after these numbers
unfoldable pub unused : ℕ → List ℕ → List ℕ → List ℕ
unused whole marks [] = marks
unused whole [] (c ∷ cs) = unused whole [] cs
unused whole (m ∷ marks) (c ∷ cs) = if m == whole - length (encode_utf8_all (c ∷ cs)) then unused whole marks cs else unused whole (m ∷ marks) cs

-- the characters of a decoded text of these bytes, with these marks
abbrev pub with_marks : List ℕ → List ℕ → List Character
with_marks bytes marks = marked (length bytes) marks (chars bytes)

-- each mark is the offset of a character of the text
abbrev pub AreMarks : List ℕ → List ℕ → Type 0
AreMarks bytes marks = unused (length bytes) marks (chars bytes) ≡ []

-- the marks after an offset, if the offset is marked
abbrev pub next_marks : ℕ → List ℕ → Option (List ℕ)
next_marks offset [] = None
next_marks offset (m ∷ marks) = if m == offset then Some marks else None

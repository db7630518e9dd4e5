-- Collapsed texts, read byte by byte from the bytes that are still to come.
use Rattle.std.specs.Prelude.{ℕ, List, [], ◌∷◌, if◌then◌else◌}
use Rattle.rng_model.specs.datatypes.Texts.{is_blank_byte, is_blank, collapse}

-- a text without the blanks that it begins with
abbrev pub past_blanks : List ℕ → List ℕ
past_blanks [] = []
past_blanks (b ∷ s) = if is_blank_byte b then past_blanks s else b ∷ s

-- what a text gives to the collapsed form of a longer one, where a run is before it or begins it
abbrev pub from_run : List ℕ → List ℕ
from_run [] = []
from_run (b ∷ s) = if is_blank_byte b then (if is_blank s then [] else 32 ∷ collapse s) else b ∷ from_run s

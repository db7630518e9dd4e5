-- A literal, byte by byte.
use Rattle.std.specs.Prelude.{ℕ, ◌==◌, if◌then◌else◌, List, [], ◌∷◌, ◌++◌, codes}
use Rattle.rncv_model.specs.printed.Words.{delimiter, escaped}

-- what is written for a character if a run with this delimiter is open
abbrev pub byte_text : ℕ → ℕ → List ℕ
byte_text quote c = (if quote == delimiter c then [] else quote ∷ (codes " ~ " ++ delimiter c ∷ [])) ++ escaped c

-- the rest of a literal if a run with this delimiter is open
abbrev pub open_text : ℕ → List ℕ → List ℕ
open_text quote [] = quote ∷ []
open_text quote (c ∷ cs) = byte_text quote c ++ open_text (delimiter c) cs

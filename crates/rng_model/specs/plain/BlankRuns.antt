-- A text as blanks and runs of other bytes: what the code that splits it is proved against.
use Rattle.std.specs.Prelude.{◌≡◌, ℕ, List, [], ◌∷◌, ◌++◌, Bool, true, not, ◌&&◌, IsTrue}
use Rattle.std.specs.List.{list_all}
use Rattle.rng_model.specs.datatypes.Texts.{is_blank_byte, is_blank, has_bytes}

-- not a blank
abbrev pub is_run_byte : ℕ → Bool
is_run_byte b = not (is_blank_byte b)

-- without blanks, and not empty
abbrev pub is_run : List ℕ → Bool
is_run s = has_bytes s && list_all is_run_byte s

-- a run that is before the text ends at the text: the text is empty or begins with a blank
abbrev pub ends_run : List ℕ → Bool
ends_run [] = true
ends_run (b ∷ s) = is_blank_byte b

-- A text is blanks, a run, blanks, a run, .. and blanks. These are its runs, each as long as possible.
pub data HasRuns : List ℕ → List (List ℕ) → Type 0 where
  no_run : {s : List ℕ} → IsTrue (is_blank s) → HasRuns s []
  then_run : {s run : List ℕ} {runs : List (List ℕ)} (before rest : List ℕ) → IsTrue (is_blank before) → IsTrue (is_run run) → IsTrue (ends_run rest)
      → HasRuns rest runs → s ≡ before ++ (run ++ rest) → HasRuns s (run ∷ runs)

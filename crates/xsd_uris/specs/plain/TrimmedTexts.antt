-- Texts without the blanks at both ends.
use Rattle.std.specs.Prelude.{ℕ, List, [], ◌∷◌, if◌then◌else◌}
use Rattle.rng_model.specs.datatypes.Texts.{is_blank}
use Rattle.rng_types.specs.plain.Runs.{past_blanks}

-- without the blanks that it ends with
abbrev pub past_end : List ℕ → List ℕ
past_end [] = []
past_end (b ∷ s) = if is_blank (b ∷ s) then [] else b ∷ past_end s

-- nor those that it begins with
abbrev pub trimmed : List ℕ → List ℕ
trimmed s = past_end (past_blanks s)

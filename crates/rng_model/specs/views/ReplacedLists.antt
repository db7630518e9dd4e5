-- Lists whose last members are replaced by one, as a row of a list of patterns replaces its children.
use Rattle.std.specs.Prelude.{ℕ, ◌-◌, List, [], ◌∷◌, ◌++◌, length, take, drop}

-- the last n members replaced by what is made of them; all members, if there are fewer
abbrev pub replaced : {A : Type 0} → ℕ → (List A → A) → List A → List A
replaced n make xs = take (length xs - n) xs ++ make (drop (length xs - n) xs) ∷ []

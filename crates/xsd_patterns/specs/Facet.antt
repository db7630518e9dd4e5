-- Expressions that are taken, and what they match. An expression is given as the text that writes it.
use Rattle.std.specs.Prelude.{◌≡◌, ℕ, List, [], ◌∷◌, Bool, false, Option, Some, None}
use Rattle.std.specs.Option.{option_map, option_and_then}
use Rattle.std.specs.Str.{chars}
use Rattle.rng_model.specs.regexes.Expressions.{Regex}
use Rattle.rng_model.specs.regexes.Patterns.{pattern_of, matches_all}
use Rattle.rng_model.specs.regexes.plain.Decided.{is_match}

-- the text is an expression, and small enough
abbrev pub IsTaken : List ℕ → Type 0
IsTaken text = (r : Regex) × (pattern_of text ≡ Some r)

abbrev pub is_match_of : Option Regex → List ℕ → Bool
is_match_of None s = false
is_match_of (Some r) s = is_match r s

-- the text writes an expression that is taken, and it matches the other text as a whole
abbrev pub is_matched : List ℕ → List ℕ → Bool
is_matched text s = is_match_of (pattern_of text) (chars s)

-- the expressions that the texts write, if each is taken
abbrev pub expressions_of : List (List ℕ) → Option (List Regex)
expressions_of [] = Some []
expressions_of (t ∷ ts) = option_and_then (λ r. option_map (λ rs. r ∷ rs) (expressions_of ts)) (pattern_of t)

-- the text matches all expressions once its white space is treated, if each is taken
abbrev pub all_match : Option (List Regex) → (List ℕ → List ℕ) → List ℕ → Bool
all_match None treated s = false
all_match (Some rs) treated s = matches_all treated rs s

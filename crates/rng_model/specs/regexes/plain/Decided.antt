-- Whether a text is an expression, and whether an expression matches a text, as functions, and that they say what `IsRegex`
-- and `Denotes` say.
use Rattle.std.specs.Prelude.{◌≡◌, ◌↔◌, ℕ, zero, suc, List, [], ◌∷◌, length, Bool, true, Option, Some, None}
use Rattle.std.specs.List.{list_any}
use Rattle.std.specs.Option.{option_map, option_and_then}
use Rattle.rng_model.specs.regexes.Expressions.{Regex, Denotes}
use Rattle.rng_model.specs.regexes.Symbols.{Symbol}
use Rattle.rng_model.specs.regexes.ExpressionGrammar.{IsRegex}
use Rattle.rng_model.specs.regexes.plain.Spelling.{next_symbol}
use Rattle.rng_model.specs.regexes.plain.Machine.{run, start}
use Rattle.rng_model.specs.regexes.plain.LinearForms.{ends, states_behind}

-- the symbols of a text, if there are so many at most
unfoldable pub symbols_in : ℕ → List ℕ → Option (List Symbol)
symbols_in n [] = Some []
symbols_in zero (c ∷ s) = None
symbols_in (suc n) (c ∷ s) = option_and_then (λ p. option_map (λ us. p.0 ∷ us) (symbols_in n p.1)) (next_symbol (c ∷ s))

-- the expression that a text writes
unfoldable pub regex_of : List ℕ → Option Regex
regex_of text = option_and_then (run start) (symbols_in (length text) text)

unfoldable pub is_match : Regex → List ℕ → Bool
is_match r s = list_any ends (states_behind ((r ∷ []) ∷ []) s)

abbrev pub RegexesAreDecided : Type 0
RegexesAreDecided = (text : List ℕ) (r : Regex) → (regex_of text ≡ Some r) ↔ IsRegex text r

abbrev pub MatchesAreDecided : Type 0
MatchesAreDecided = (r : Regex) (s : List ℕ) → (is_match r s ≡ true) ↔ Denotes r s

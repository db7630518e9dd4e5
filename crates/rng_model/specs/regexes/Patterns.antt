-- The facet `pattern` (XML Schema Part 2, Second Edition, section 4.3.4): which expressions are taken, and which texts match.
-- `IsRegex` and `Denotes` say what the two functions `regex_of` and `is_match` say.
use Rattle.std.specs.Prelude.{codes, ℕ, nat_le, List, [], ◌∷◌, Bool, not, Option, Some, None, if◌then◌else◌}
use Rattle.std.specs.List.{list_all, filter}
use Rattle.std.specs.Option.{option_map, option_and_then}
use Rattle.std.specs.Str.{bytes_eq, chars}
use Rattle.rng_model.specs.datatypes.Facets.{Parameter}
use Rattle.rng_model.specs.datatypes.Datatypes.{Meaning, Maker}
use Rattle.rng_model.specs.regexes.Expressions.{Regex}
use Rattle.rng_model.specs.regexes.plain.Decided.{regex_of, is_match}
use Rattle.rng_model.specs.regexes.Sizes.{size, most_size}

-- ---- expressions

-- an expression is taken if it is small enough; the processor sets how large it may be
abbrev pub if_small : Regex → Option Regex
if_small r = if nat_le (size r) most_size then Some r else None

abbrev pub pattern_of : List ℕ → Option Regex
pattern_of s = option_and_then if_small (regex_of (chars s))

-- ---- parameters

abbrev pub is_pattern : Parameter → Bool
is_pattern p = bytes_eq p.0 (codes "pattern")

abbrev pub other_parameters : List Parameter → List Parameter
other_parameters ps = filter (λ p. not (is_pattern p)) ps

-- the expressions of all parameters of that name, if each is taken
unfoldable pub patterns_of : List Parameter → Option (List Regex)
patterns_of [] = Some []
patterns_of (p ∷ ps) =
    if is_pattern p then option_and_then (λ r. option_map (λ rs. r ∷ rs) (patterns_of ps)) (pattern_of p.1) else patterns_of ps

-- ---- texts

-- the text matches each expression once its white space is treated (section 4.3.6)
abbrev pub matches_all : (List ℕ → List ℕ) → List Regex → List ℕ → Bool
matches_all treated rs s = list_all (λ r. is_match r (chars (treated s))) rs

abbrev pub matching : (List ℕ → List ℕ) → List Regex → Meaning → Meaning
matching treated rs meaning s = if matches_all treated rs s then meaning s else None

-- A type takes any number of patterns besides its own parameters, and each restricts it: parameters of RELAX NG are no
-- steps of a derivation, in which alternatives could be meant (section 4.3.4.3; RELAX NG Specification, section 4.16).
abbrev pub with_patterns : (List ℕ → List ℕ) → Maker → Maker
with_patterns treated make ps = option_and_then (λ rs. option_map (matching treated rs) (make (other_parameters ps))) (patterns_of ps)

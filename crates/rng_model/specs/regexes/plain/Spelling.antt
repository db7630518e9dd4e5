-- The symbol that begins a text, and what is behind it.
use Rattle.std.specs.Prelude.{ℕ, List, [], ◌∷◌, Bool, true, false, not, take, drop, Option, Some, None, if◌then◌else◌, ◌==◌}
use Rattle.std.specs.List.{prefix_len}
use Rattle.std.specs.Option.{option_map}
use Rattle.rng_model.specs.regexes.Expressions.{Class, complement}
use Rattle.rng_model.specs.regexes.Properties.{property_named}
use Rattle.rng_model.specs.regexes.Symbols.{Symbol, char, class, short_escape, AreSymbols}

abbrev pub Read : Type 0
Read = Option (Symbol × List ℕ)

-- the first character, and what is behind it
abbrev pub first_of : List ℕ → Option (ℕ × List ℕ)
first_of [] = None
first_of (c ∷ s) = Some (c, s)

-- the class, or its complement
abbrev pub negated_if : Bool → Class → Class
negated_if neg k = if neg then complement k else k

abbrev pub is_in_name : ℕ → Bool
is_in_name c = not (c == 0x7D)

-- behind the name of a property
unfoldable pub behind_name : Bool → List ℕ → List ℕ → Read
behind_name neg name [] = None
behind_name neg name (c ∷ s) = option_map (λ k. (class (negated_if neg k), s)) (property_named name)

-- behind `\p{` or `\P{`
unfoldable pub named_symbol : Bool → List ℕ → Read
named_symbol neg s = behind_name neg (take (prefix_len is_in_name s) s) (drop (prefix_len is_in_name s) s)

-- behind `\p` or `\P`
unfoldable pub property_symbol : Bool → List ℕ → Read
property_symbol neg [] = None
property_symbol neg (c ∷ s) = if c == 0x7B then named_symbol neg s else None

-- behind `\`
unfoldable pub escape_symbol : List ℕ → Read
escape_symbol [] = None
escape_symbol (c ∷ s) =
    if c == 0x70 then property_symbol false s else
    if c == 0x50 then property_symbol true s else option_map (λ u. (u, s)) (short_escape c)

unfoldable pub next_symbol : List ℕ → Read
next_symbol [] = None
next_symbol (c ∷ s) = if c == 0x5C then escape_symbol s else Some (char c, s)

-- no list of symbols is that of the text
abbrev pub HasNoSymbols : List ℕ → Type 0
HasNoSymbols s = (us : List Symbol) → ¬ (AreSymbols s us)

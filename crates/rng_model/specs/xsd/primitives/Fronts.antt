-- What the front of a text writes, and the rest of the text: what dates, times and durations are made of (XML Schema Part 2,
-- Second Edition, sections 3.2.6.1 and 3.2.7.1).
use Rattle.std.specs.Prelude.{ℕ, ◌-◌, List, [], ◌∷◌, ◌++◌, length, take, drop, replicate, ◌&&◌, ◌==◌, nat_le, if◌then◌else◌, Option, Some, None}
use Rattle.std.specs.Char.{is_ascii_digit}
use Rattle.std.specs.List.{prefix_len}
use Rattle.std.specs.Str.Parse.{digits_value}

-- a number, and the rest of the text
abbrev pub Front : Type 0
Front = ℕ × List ℕ

infixl 10 ◌>>=◌
abbrev pub ◌>>=◌ : {A B : Type 0} → Option A → (A → Option B) → Option B
None >>= f = None
Some a >>= f = f a

-- what is behind the byte that begins the text
abbrev pub after : ℕ → List ℕ → Option (List ℕ)
after b [] = None
after b (c ∷ rest) = if b == c then Some rest else None

-- a number of two digits, from the least to the greatest
abbrev pub two_digits : ℕ → ℕ → List ℕ → Option Front
two_digits least greatest [] = None
two_digits least greatest (a ∷ []) = None
two_digits least greatest (a ∷ b ∷ rest) =
    let n = digits_value 10 (a ∷ b ∷ []) in
    if (is_ascii_digit a && is_ascii_digit b) && (nat_le least n && nat_le n greatest) then Some (n, rest) else None

-- the digits that begin the text, and what is behind them
abbrev pub first_digits : List ℕ → List ℕ
first_digits s = take (prefix_len is_ascii_digit s) s

abbrev pub past_digits : List ℕ → List ℕ
past_digits s = drop (prefix_len is_ascii_digit s) s

-- The greatest number of digits of a fraction of a second. The standard asks for 3 at least (section 3.2.7).
abbrev pub most_fraction_digits : ℕ
most_fraction_digits = 18

-- the number of units of 10 ^ -18 that these digits behind a point write
abbrev pub fraction_value : List ℕ → ℕ
fraction_value ds = digits_value 10 (ds ++ replicate (most_fraction_digits - length ds) 0x30)

abbrev pub fraction_with : List ℕ → List ℕ → Option Front
fraction_with ds rest = if nat_le 1 (length ds) && nat_le (length ds) most_fraction_digits then Some (fraction_value ds, rest) else None

-- a point and digits, or neither
abbrev pub fraction_at : List ℕ → Option Front
fraction_at [] = Some (0, [])
fraction_at (c ∷ rest) = if c == 0x2E then fraction_with (first_digits rest) (past_digits rest) else Some (0, c ∷ rest)

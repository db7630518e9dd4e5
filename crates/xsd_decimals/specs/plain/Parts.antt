-- The parts of texts that write numbers: digits, a point and digits.
use Rattle.std.specs.Prelude.{◌≡◌, ◌⊎◌, ℕ, List, [], ◌∷◌, ◌++◌, Bool, true, false, Some, None}
use Rattle.std.specs.Char.{is_ascii_digit}
use Rattle.std.specs.List.{slice_split}
use Rattle.rng_model.specs.xsd.Numbers.{are_digits}
use Rattle.rng_model.specs.xsd.primitives.Decimals.{is_point, decimal_with, decimal_parts}

abbrev pub starts_with_digit : List ℕ → Bool
starts_with_digit [] = false
starts_with_digit (b ∷ s) = is_ascii_digit b

abbrev pub starts_with_point : List ℕ → Bool
starts_with_point [] = false
starts_with_point (b ∷ s) = is_point b

-- what follows the digits before a point: a point, digits and what follows these, or no point
pub record AreBehind (rest fraction after : List ℕ) : Type 0 where
  pub parts : (rest ≡ 46 ∷ (fraction ++ after)) ⊎ ((fraction ≡ []) × (after ≡ rest) × (starts_with_point rest ≡ false))
  pub behind : starts_with_digit after ≡ false

-- a text without its sign writes these digits before the point and behind it
pub record WritesParts (s whole fraction : List ℕ) : Type 0 where
  pub some : are_digits (whole ++ fraction) ≡ true
  pub is : (minus : Bool) → decimal_parts minus (slice_split is_point s) ≡ Some (decimal_with minus whole fraction)

-- or no number
abbrev pub WritesNone : List ℕ → Type 0
WritesNone s = (minus : Bool) → decimal_parts minus (slice_split is_point s) ≡ None

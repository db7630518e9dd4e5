-- Integers as a sign and digits.
use Rattle.std.specs.Prelude.{◌≡◌, ◌==◌, ℕ, List, [], ◌∷◌, Bool, true, false, length, cond, if◌then◌else◌, ℤ, pos, neg_ℤ}
use Rattle.std.specs.Char.{is_ascii_digit}
use Rattle.std.specs.List.{list_all}
use Rattle.std.specs.Str.Parse.{digits_value}
use Rattle.xsd_types.specs.declared.numerals.Numeral.{Numeral}

-- the digits without the zeros in front
abbrev pub past_zeros : List ℕ → List ℕ
past_zeros [] = []
past_zeros (d ∷ ds) = if d == 48 then past_zeros ds else d ∷ ds

abbrev pub starts_with_zero : List ℕ → Bool
starts_with_zero [] = false
starts_with_zero (d ∷ ds) = d == 48

-- digits without a zero in front
pub record AreSignificant (ds : List ℕ) : Type 0 where
  pub digits : list_all is_ascii_digit ds ≡ true
  pub first : starts_with_zero ds ≡ false

-- zero is not negative
pub record IsSigned (minus : Bool) (ds : List ℕ) : Type 0 where
  pub digits : AreSignificant ds
  pub sign : minus ≡ true → (length ds == 0) ≡ false

abbrev pub IsNumeral : Numeral → Type 0
IsNumeral n = IsSigned n.negative n.digits.now

-- the integer
abbrev pub signed_value : Bool → List ℕ → ℤ
signed_value minus ds = cond minus (neg_ℤ (pos (digits_value 10 ds))) (pos (digits_value 10 ds))

abbrev pub value_of : Numeral → ℤ
value_of n = signed_value n.negative n.digits.now

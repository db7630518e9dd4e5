-- Numbers as a sign, digits before the point and digits behind it.
use Rattle.std.specs.Prelude.{◌≡◌, ◌==◌, ℕ, List, [], ◌∷◌, ◌++◌, Bool, true, false, length, if◌then◌else◌}
use Rattle.std.specs.Char.{is_ascii_digit}
use Rattle.std.specs.List.{list_all}
use Rattle.std.specs.Str.Parse.{digits_value}
use Rattle.rng_model.specs.xsd.primitives.Decimals.{Decimal, significant, signed}
use Rattle.xsd_decimals.specs.declared.number.Number.{Number}

-- the digits without the zeros in front
abbrev pub past_zeros : List ℕ → List ℕ
past_zeros [] = []
past_zeros (d ∷ ds) = if d == 48 then past_zeros ds else d ∷ ds

abbrev pub starts_with_zero : List ℕ → Bool
starts_with_zero [] = false
starts_with_zero (d ∷ ds) = d == 48

-- digits without a zero in front
pub record AreWhole (ds : List ℕ) : Type 0 where
  pub digits : list_all is_ascii_digit ds ≡ true
  pub first : starts_with_zero ds ≡ false

-- digits without a zero at their end
pub record AreFraction (ds : List ℕ) : Type 0 where
  pub digits : list_all is_ascii_digit ds ≡ true
  pub last : significant ds ≡ ds

-- zero is not negative
pub record IsWritten (minus : Bool) (whole fraction : List ℕ) : Type 0 where
  pub whole_digits : AreWhole whole
  pub fraction_digits : AreFraction fraction
  pub sign : minus ≡ true → (length (whole ++ fraction) == 0) ≡ false

-- the number
abbrev pub number_of : Bool → List ℕ → List ℕ → Decimal
number_of minus whole fraction = record { units = signed minus (digits_value 10 (whole ++ fraction)); places = length fraction }

abbrev pub IsNumber : Number → Type 0
IsNumber n = IsWritten n.negative n.whole.now n.fraction.now

abbrev pub value_of : Number → Decimal
value_of n = number_of n.negative n.whole.now n.fraction.now

-- the integer that all the digits write
abbrev pub size_of : Number → ℕ
size_of n = digits_value 10 (n.whole.now ++ n.fraction.now)

-- Which integer a text writes, and which number a facet writes that counts (XML Schema Part 2, Second Edition, sections
-- 3.3.13, 3.3.20, 3.3.25, 4.3.1 to 4.3.3 and 4.3.11).
use Rattle.std.specs.Prelude.{ℕ, ◌-◌, ◌^◌, List, Bool, Option, Some, None, ℤ, pos, negsuc, nat_le, ◌&&◌, if◌then◌else◌}
use Rattle.std.specs.Char.{is_ascii_digit}
use Rattle.std.specs.List.{list_all}
use Rattle.std.specs.Option.{option_and_then}
use Rattle.std.specs.Str.Parse.{without_leading_sign, signed_digits_value}
use Rattle.rng_model.specs.datatypes.Texts.{collapse, has_bytes}

-- one digit or more
abbrev pub are_digits : List ℕ → Bool
are_digits ds = has_bytes ds && list_all is_ascii_digit ds

-- an optional sign, and digits, of which there may be any number (section 3.3.13.1)
unfoldable pub integer_of : List ℕ → Option ℤ
integer_of s = if are_digits (without_leading_sign s) then Some (signed_digits_value 10 s) else None

-- the integer that the text writes once it is collapsed
abbrev pub written_integer : List ℕ → Option ℤ
written_integer s = integer_of (collapse s)

-- the greatest number that a facet may write that counts: no text is longer
abbrev pub most_counted : ℕ
most_counted = 2 ^ 63 - 1

-- the integer is from `least` to the greatest
abbrev pub counted_from : ℕ → ℤ → Option ℕ
counted_from least (pos n) = if nat_le least n && nat_le n most_counted then Some n else None
counted_from least (negsuc n) = None

abbrev pub count_from : ℕ → List ℕ → Option ℕ
count_from least s = option_and_then (counted_from least) (written_integer s)

-- a nonNegativeInteger: the value of `fractionDigits` (sections 3.3.20 and 4.3.12)
abbrev pub count_of : List ℕ → Option ℕ
count_of = count_from 0

-- a positiveInteger: the value of `totalDigits` (section 3.3.25)
abbrev pub digit_count_of : List ℕ → Option ℕ
digit_count_of = count_from 1

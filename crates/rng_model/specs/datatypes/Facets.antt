-- Numbers that texts write, and the facets of a datatype: bounds on the number of characters of a text and on numbers,
-- and the parameters that write them (XML Schema Part 2, section 4.3).
use Rattle.std.specs.Prelude.{codes, ℕ, List, Bool, Option, Some, None, ℤ, nat_le, length, true, false, ◌&&◌, if◌then◌else◌, int_le, is_some, ◌||◌}
use Rattle.std.specs.Char.{is_ascii_digit}
use Rattle.std.specs.List.{list_all, count_by}
use Rattle.std.specs.Str.{bytes_eq, chars}
use Rattle.std.specs.Str.Parse.{without_leading_sign, signed_digits_value, digits_value}
use Rattle.rng_model.specs.datatypes.Texts.{collapse, has_bytes, Value, number}
use Rattle.std.specs.Map.{lookup}
use Rattle.std.specs.Option.{option_and_then}

-- ---- numbers (sections 3.2.2, 3.3.13, 4.3.2, 4.3.3, 4.3.7 and 4.3.10; the processor sets how many digits, section
-- 3.2.3)

-- `true`, `1`, `false` or `0` (section 3.2.2)
unfoldable pub truth_of : List ℕ → Option Bool
truth_of s =
    if bytes_eq s (codes "true") then Some true else
    if bytes_eq s (codes "1") then Some true else
    if bytes_eq s (codes "false") then Some false else
    if bytes_eq s (codes "0") then Some false else None

-- one digit or more, and at most `most`
abbrev pub is_decimal : ℕ → List ℕ → Bool
is_decimal most ds = has_bytes ds && (list_all is_ascii_digit ds && nat_le (length ds) most)

-- the greatest number of digits of an integer
abbrev pub most_digits : ℕ
most_digits = 38

-- the number that a text writes: an optional sign, and digits (section 3.3.13)
unfoldable pub short_integer_of : List ℕ → Option ℤ
short_integer_of s = if is_decimal most_digits (without_leading_sign s) then Some (signed_digits_value 10 s) else None

-- the greatest number of digits of a length
abbrev pub most_length_digits : ℕ
most_length_digits = 9

-- the length that a text writes: only digits (sections 4.3.2 and 4.3.3)
unfoldable pub length_of : List ℕ → Option ℕ
length_of s = if is_decimal most_length_digits s then Some (digits_value 10 s) else None

-- the bound that a text writes: the value of the text in `integer` (sections 4.3.7 and 4.3.10)
abbrev pub short_bound_of : List ℕ → Option ℤ
short_bound_of s = short_integer_of (collapse s)

-- ---- bounds (sections 4.3.2, 4.3.3, 4.3.7 and 4.3.10)

-- the least and the greatest that is allowed, if there is one
pub record Range (A : Type 0) : Type 0 where
  pub least : Option A
  pub greatest : Option A

-- minLength and maxLength
abbrev pub Lengths : Type 0
Lengths = Range ℕ

-- minInclusive and maxInclusive
abbrev pub Bounds : Type 0
Bounds = Range ℤ

-- there is no bound, or the bound passes the test
abbrev pub passes : {A : Type 0} → (A → Bool) → Option A → Bool
passes test None = true
passes test (Some bound) = test bound

-- the number is within the bounds, and may be equal to them
abbrev pub is_within : Lengths → ℕ → Bool
is_within l n = passes (λ least. nat_le least n) l.least && passes (λ greatest. nat_le n greatest) l.greatest

abbrev pub is_inside : Bounds → ℤ → Bool
is_inside b n = passes (λ least. int_le least n) b.least && passes (λ greatest. int_le n greatest) b.greatest

-- the number of characters of the text is within the bounds
abbrev pub fits : Lengths → List ℕ → Bool
fits l s = is_within l (length (chars s))

-- the number as a value, if there is one and it is within the bounds
abbrev pub number_inside : Bounds → Option ℤ → Option Value
number_inside b None = None
number_inside b (Some n) = if is_inside b n then Some (number n) else None

-- ---- parameters (section 4.3)

-- a parameter: its name and its value
abbrev pub Parameter : Type 0
Parameter = List ℕ × List ℕ

-- what a list of pairs has under this name: the first of that name
abbrev pub named : {A : Type 0} → List ℕ → List (List ℕ × A) → Option A
named name pairs = lookup (bytes_eq name) pairs

abbrev pub is_named : List ℕ → Parameter → Bool
is_named name p = bytes_eq name p.0

-- at most one parameter has the name
abbrev pub is_once : List ℕ → List Parameter → Bool
is_once name ps = nat_le (count_by (is_named name) ps) 1

-- the parameter has one of two names, and a value that can be read
abbrev pub is_range_facet : {A : Type 0} → (List ℕ → Option A) → List ℕ → List ℕ → Parameter → Bool
is_range_facet read least greatest p = (is_named least p || is_named greatest p) && is_some (read p.1)

-- each parameter is one of these, and none occurs twice
abbrev pub are_range_facets : {A : Type 0} → (List ℕ → Option A) → List ℕ → List ℕ → List Parameter → Bool
are_range_facets read least greatest ps = (list_all (is_range_facet read least greatest) ps && is_once least ps) && is_once greatest ps

-- then these are the bounds that they write
unfoldable pub written_range : {A : Type 0} → (List ℕ → Option A) → List ℕ → List ℕ → List Parameter → Option (Range A)
written_range read least greatest ps =
    if are_range_facets read least greatest ps
    then Some (record { least = option_and_then read (named least ps); greatest = option_and_then read (named greatest ps) })
    else None

-- Worked cases of decimal, which the checker computes.
use Rattle.std.proofs.Common.{codes, ◌≡◌, ℕ, List, [], ◌∷◌, refl, true, false, Bool, Some, None, pos, negsuc, is_some}
use Rattle.rng_model.specs.datatypes.Texts.{collapse, pieces}
use Rattle.rng_model.specs.datatypes.Facets as old
use Rattle.rng_model.specs.xsd.Numbers.{integer_of}
use Rattle.rng_model.specs.xsd.Limits.{written_limits}
use Rattle.rng_model.specs.xsd.Integers.{written_facets}
use Rattle.rng_model.specs.xsd.primitives.Decimals.{decimal_of, written_decimal_facets}
use Rattle.rng_model.specs.regexes.Patterns.{patterns_of}
use Rattle.xsd_values.proofs.Examples.Tables.{allows, equates}

-- ---- texts: the examples of section 3.2.3.1, and what has no digit or something else

one_place : decimal_of (codes "-1.23") ≡ Some (record { units = negsuc 122; places = 2 })
unfolding decimal_of
one_place = refl

six_places : decimal_of (codes "12678967.543233") ≡ Some (record { units = pos 12678967543233; places = 6 })
unfolding decimal_of
six_places = refl

zeros_behind : decimal_of (codes "+100000.00") ≡ Some (record { units = pos 100000; places = 0 })
unfolding decimal_of
zeros_behind = refl

no_point : decimal_of (codes "210") ≡ Some (record { units = pos 210; places = 0 })
unfolding decimal_of
no_point = refl

nothing_before : decimal_of (codes "+00.50") ≡ decimal_of (codes ".5")
unfolding decimal_of
nothing_before = refl

nothing_behind : decimal_of (codes "-1.") ≡ decimal_of (codes "-1")
unfolding decimal_of
nothing_behind = refl

zeros : decimal_of (codes "-0.00") ≡ decimal_of (codes "0")
unfolding decimal_of
zeros = refl

no_digit : decimal_of (codes "-.") ≡ None
unfolding decimal_of
no_digit = refl

empty : decimal_of [] ≡ None
unfolding decimal_of
empty = refl

two_points : decimal_of (codes "1.2.3") ≡ None
unfolding decimal_of
two_points = refl

two_signs : decimal_of (codes "+-1") ≡ None
unfolding decimal_of
two_signs = refl

exponent : decimal_of (codes "1e3") ≡ None
unfolding decimal_of
exponent = refl

-- ---- values with facets: the table allows and equates

same_number : equates (codes "decimal") (codes "1.0") (codes " 01.000 ") ≡ true
unfolding collapse pieces decimal_of written_limits patterns_of
same_number = refl

another_number : equates (codes "decimal") (codes "1.0") (codes "1.01") ≡ false
unfolding collapse pieces decimal_of written_limits patterns_of
another_number = refl

many_places : equates (codes "decimal") (codes "0.100000000000000000000000000000000000000000000000001") (codes "0.1") ≡ false
unfolding collapse pieces decimal_of written_limits patterns_of
many_places = refl

ten_above_nine : allows (codes "decimal") ((codes "minExclusive", codes "9.99") ∷ []) (codes "10") ≡ true
unfolding collapse pieces decimal_of written_limits patterns_of
ten_above_nine = refl

below : allows (codes "decimal") ((codes "maxExclusive", codes "-0.5") ∷ []) (codes "-0.50") ≡ false
unfolding collapse pieces decimal_of written_limits patterns_of
below = refl

at_bound : allows (codes "decimal") ((codes "maxInclusive", codes "-0.5") ∷ []) (codes "-0.50") ≡ true
unfolding collapse pieces decimal_of written_limits patterns_of
at_bound = refl

-- ---- digits: zeros at the ends do not count (sections 4.3.11 and 4.3.12)

total_of : List ℕ → Bool
total_of s = allows (codes "decimal") ((codes "totalDigits", codes "3") ∷ []) s

three_digits : total_of (codes "0123.0") ≡ true
unfolding total_of collapse pieces integer_of decimal_of written_limits patterns_of
three_digits = refl

zero_at_end : total_of (codes "1.230") ≡ true
unfolding total_of collapse pieces integer_of decimal_of written_limits patterns_of
zero_at_end = refl

four_digits : total_of (codes "123.4") ≡ false
unfolding total_of collapse pieces integer_of decimal_of written_limits patterns_of
four_digits = refl

three_places : total_of (codes "0.001") ≡ true
unfolding total_of collapse pieces integer_of decimal_of written_limits patterns_of
three_places = refl

four_places : total_of (codes "0.0001") ≡ false
unfolding total_of collapse pieces integer_of decimal_of written_limits patterns_of
four_places = refl

fraction_of : List ℕ → Bool
fraction_of s = allows (codes "decimal") ((codes "fractionDigits", codes "1") ∷ []) s

one_digit_behind : fraction_of (codes "1.20") ≡ true
unfolding fraction_of collapse pieces integer_of decimal_of written_limits patterns_of
one_digit_behind = refl

two_digits_behind : fraction_of (codes "1.23") ≡ false
unfolding fraction_of collapse pieces integer_of decimal_of written_limits patterns_of
two_digits_behind = refl

-- ---- which parameters are taken

more_behind : written_decimal_facets ((codes "totalDigits", codes "2") ∷ (codes "fractionDigits", codes "3") ∷ []) ≡ None
unfolding collapse pieces integer_of written_limits
more_behind = refl

wrong_order : written_decimal_facets ((codes "minInclusive", codes "1.5") ∷ (codes "maxExclusive", codes "1.50") ∷ []) ≡ None
unfolding collapse pieces integer_of decimal_of written_limits
wrong_order = refl

-- an integer type takes no `fractionDigits` but 0
abbrev any_integer : old.Bounds
any_integer = record { least = None; greatest = None }

no_fraction : is_some (written_facets any_integer ((codes "fractionDigits", codes "0") ∷ [])) ≡ true
unfolding collapse pieces integer_of written_limits
no_fraction = refl

one_fraction : is_some (written_facets any_integer ((codes "fractionDigits", codes "1") ∷ [])) ≡ false
unfolding collapse pieces integer_of written_limits
one_fraction = refl

-- Worked cases of float and double, which the checker computes.
use Rattle.std.proofs.Common.{codes, ◌≡◌, [], ◌∷◌, refl, true, false, Some, None, pos, is_some}
use Rattle.std.specs.Float.{binary32, binary64, inf, fin}
use Rattle.std.specs.Float.Numeral.{scan_numeral}
use Rattle.std.specs.Float.Parse.{read_float}
use lib.Ieee.{round, lt}
use Rattle.rng_model.specs.datatypes.Texts.{collapse, pieces}
use Rattle.rng_model.specs.xsd.Limits.{written_limits}
use Rattle.rng_model.specs.xsd.primitives.Floats.{float_of}
use Rattle.rng_model.specs.regexes.Patterns.{patterns_of}
use Rattle.xsd_values.proofs.Examples.Tables.{allows, equates}

-- ---- texts: the examples of section 3.2.4.1, and words that are none of the type

with_exponent : float_of binary32 (codes "-1E4") ≡ Some (fin true 625 (pos 4))
unfolding float_of round scan_numeral read_float
with_exponent = refl

large : is_some (float_of binary32 (codes "1267.43233E12")) ≡ true
unfolding float_of round scan_numeral read_float
large = refl

small_exponent : float_of binary32 (codes "12.78e-2") ≡ float_of binary32 (codes "0.1278")
unfolding float_of round scan_numeral read_float
small_exponent = refl

whole : float_of binary64 (codes "12") ≡ Some (fin false 3 (pos 2))
unfolding float_of round scan_numeral read_float
whole = refl

nothing_behind : float_of binary64 (codes "1.e1") ≡ float_of binary64 (codes "10")
unfolding float_of round scan_numeral read_float
nothing_behind = refl

infinity : float_of binary64 (codes "-INF") ≡ Some (inf true)
unfolding float_of
infinity = refl

plus_infinity : float_of binary64 (codes "+INF") ≡ None
unfolding float_of round scan_numeral read_float
plus_infinity = refl

small_letters : float_of binary64 (codes "inf") ≡ None
unfolding float_of round scan_numeral read_float
small_letters = refl

no_digit : float_of binary64 (codes ".") ≡ None
unfolding float_of round scan_numeral read_float
no_digit = refl

no_exponent : float_of binary64 (codes "1e") ≡ None
unfolding float_of round scan_numeral read_float
no_exponent = refl

hexadecimal : float_of binary64 (codes "0x1p3") ≡ None
unfolding float_of round scan_numeral read_float
hexadecimal = refl

-- ---- equality

zeros : equates (codes "float") (codes "0") (codes "-0") ≡ true
unfolding float_of round scan_numeral read_float collapse pieces written_limits patterns_of
zeros = refl

nearest_even : equates (codes "float") (codes "16777216") (codes "16777217") ≡ true
unfolding float_of round scan_numeral read_float collapse pieces written_limits patterns_of
nearest_even = refl

exact_double : equates (codes "double") (codes "16777216") (codes "16777217") ≡ false
unfolding float_of round scan_numeral read_float collapse pieces written_limits patterns_of
exact_double = refl

too_large : equates (codes "double") (codes "1e400") (codes "INF") ≡ true
unfolding float_of round scan_numeral read_float collapse pieces written_limits patterns_of
too_large = refl

same_nan : equates (codes "float") (codes "NaN") (codes "NaN") ≡ true
unfolding float_of round scan_numeral read_float collapse pieces written_limits patterns_of
same_nan = refl

-- ---- bounds: NaN is within none but itself

nan_above_zero : allows (codes "float") ((codes "minInclusive", codes "0") ∷ []) (codes "NaN") ≡ false
unfolding float_of round scan_numeral read_float lt collapse pieces written_limits patterns_of
nan_above_zero = refl

zero_below_nan : allows (codes "float") ((codes "maxInclusive", codes "NaN") ∷ []) (codes "0") ≡ false
unfolding float_of round scan_numeral read_float lt collapse pieces written_limits patterns_of
zero_below_nan = refl

nan_only : allows (codes "float") ((codes "maxInclusive", codes "NaN") ∷ []) (codes "NaN") ≡ true
unfolding float_of round scan_numeral read_float lt collapse pieces written_limits patterns_of
nan_only = refl

nan_exclusive : allows (codes "float") ((codes "maxExclusive", codes "NaN") ∷ []) (codes "NaN") ≡ false
unfolding float_of round scan_numeral read_float lt collapse pieces written_limits patterns_of
nan_exclusive = refl

minus_zero_at_zero : allows (codes "float") ((codes "minInclusive", codes "0") ∷ []) (codes "-0") ≡ true
unfolding float_of round scan_numeral read_float lt collapse pieces written_limits patterns_of
minus_zero_at_zero = refl

too_small : allows (codes "double") ((codes "minExclusive", codes "-0") ∷ []) (codes "1e-400") ≡ false
unfolding float_of round scan_numeral read_float lt collapse pieces written_limits patterns_of
too_small = refl

infinity_above : allows (codes "float") ((codes "minInclusive", codes "0") ∷ []) (codes "INF") ≡ true
unfolding float_of round scan_numeral read_float lt collapse pieces written_limits patterns_of
infinity_above = refl

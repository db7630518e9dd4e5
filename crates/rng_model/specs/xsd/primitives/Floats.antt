-- float and double: which number a text writes, and how the numbers are ordered (XML Schema Part 2, Second Edition, sections
-- 3.2.4 and 3.2.5). The values are those of the formats of IEEE 754 with one zero and one NaN.
use Rattle.std.specs.Prelude.{codes, ℕ, List, Bool, true, false, not, ◌&&◌, ◌||◌, ◌==◌, if◌then◌else◌, Option, Some, None}
use Rattle.std.specs.Bool.{beq}
use Rattle.std.specs.Option.{option_map}
use Rattle.std.specs.Ordering.{int_eq}
use Rattle.std.specs.Str.{bytes_eq}
use Rattle.std.specs.Float.{Float, Format, nan, inf, fin}
use Rattle.std.specs.Float.Parse.{completes_number, without_sign, parse_float}
use lib.Ieee.{lt}
use Rattle.rng_model.specs.datatypes.Texts.{collapse}
use Rattle.rng_model.specs.xsd.Limits.{Ordered}

-- the zeros are one value (section 3.2.4: a value is m × 2 ^ e for integers m and e)
abbrev pub one_zero : Float → Float
one_zero nan = nan
one_zero (inf minus) = inf minus
one_zero (fin minus m e) = fin (minus && not (m == 0)) m e

-- A decimal, and perhaps `e` or `E` and an integer, or one of three words (section 3.2.4.1). The value is the number of the
-- format that is nearest to what is written, the even one of two (IEEE 754).
unfoldable pub float_of : Format → List ℕ → Option Float
float_of format s =
    if bytes_eq s (codes "INF") then Some (inf false) else
    if bytes_eq s (codes "-INF") then Some (inf true) else
    if bytes_eq s (codes "NaN") then Some nan else
    if completes_number 0 (without_sign s) then option_map one_zero (parse_float format s) else None

-- NaN equals itself (section 3.2.4)
abbrev pub same_float : Float → Float → Bool
same_float nan nan = true
same_float nan (inf t) = false
same_float nan (fin t n d) = false
same_float (inf s) nan = false
same_float (inf s) (inf t) = beq s t
same_float (inf s) (fin t n d) = false
same_float (fin s m e) nan = false
same_float (fin s m e) (inf t) = false
same_float (fin s m e) (fin t n d) = beq s t && ((m == n) && int_eq e d)

-- NaN is neither less nor greater than another value (section 3.2.4)
abbrev pub floats : Format → Ordered Float
floats format = record {
  value_of = λ s. float_of format (collapse s);
  has = λ x. true;
  is_at_most = λ a b. same_float a b || lt a b;
  is_less = lt;
}

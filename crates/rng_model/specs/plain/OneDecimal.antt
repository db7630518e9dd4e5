-- Decimals whose last place is not 0: each number is one of them.
use Rattle.std.specs.Prelude.{◌≢◌, ◌<◌, ◌%◌, Bool, ◌&&◌, ◌==◌, nat_abs}
use Rattle.std.specs.Ordering.{int_eq}
use Rattle.rng_model.specs.xsd.primitives.Decimals.{Decimal}

-- The last place is not 0. So each number is written in one way, as the values of texts are.
abbrev pub IsCanonical : Decimal → Type 0
IsCanonical d = 0 < d.places → nat_abs d.units % 10 ≢ 0

abbrev pub same_decimal : Decimal → Decimal → Bool
same_decimal a b = int_eq a.units b.units && (a.places == b.places)

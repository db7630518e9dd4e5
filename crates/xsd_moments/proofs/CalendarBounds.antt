-- How many days there are before a day.
use Rattle.std.proofs.Common.{◌≤◌, ◌<◌, ℕ, zero, suc, ◌*◌, arith}
use Rattle.std.proofs.lemmas.Bool.Decides.{nat_tests}
use Rattle.rng_model.specs.xsd.primitives.Calendar.{days_before_year, days_in_month, days_of_months}
use Rattle.xsd_moments.specs.Bounds.{last_year}

pub days_of_years : (y : ℕ) → y ≤ last_year → days_before_year y < 7500000000000
days_of_years y h = omega arith

month_has : (y m : ℕ) → days_in_month y m ≤ 31
month_has y m = grind (arith, nat_tests)

pub months_have : (y m : ℕ) → days_of_months y m ≤ m * 31
months_have y zero = omega arith
months_have y (suc m) = omega (arith, months_have y m, month_has y (suc m))

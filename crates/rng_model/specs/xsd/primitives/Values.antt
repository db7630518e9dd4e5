-- The values of these types, each by the numbers that it consists of (XML Schema Part 2, Second Edition, section 2.2). Two
-- values of a type have the same numbers exactly if they are the same.
use Rattle.std.specs.Prelude.{ℕ, List, [], ◌∷◌, Bool, true, false, ℤ, pos, negsuc}
use Rattle.std.specs.Float.{Float, nan, inf, fin}
use Rattle.rng_model.specs.datatypes.Texts.{Value, numbers}
use Rattle.rng_model.specs.xsd.primitives.Decimals.{Decimal}
use Rattle.rng_model.specs.xsd.primitives.Zones.{Moment}
use Rattle.rng_model.specs.xsd.primitives.Moments.{each_day}
use Rattle.rng_model.specs.xsd.primitives.Durations.{Duration}

abbrev pub of_truth : Bool → ℕ
of_truth false = 0
of_truth true = 1

abbrev pub of_integer : ℤ → List ℕ
of_integer (pos n) = 0 ∷ n ∷ []
of_integer (negsuc n) = 1 ∷ n ∷ []

abbrev pub decimal : Decimal → Value
decimal d = numbers (d.places ∷ of_integer d.units)

abbrev pub float : Float → Value
float nan = numbers []
float (inf minus) = numbers (of_truth minus ∷ [])
float (fin minus m e) = numbers (of_truth minus ∷ m ∷ of_integer e)

abbrev pub moment : Moment → Value
moment m = numbers (of_truth m.zoned ∷ m.at ∷ [])

-- a time, of which only the moment of the day counts (section 3.2.8)
abbrev pub time : Moment → Value
time m = moment (each_day m)

abbrev pub duration : Duration → Value
duration d = numbers (of_truth d.negative ∷ d.years ∷ d.months ∷ d.days ∷ d.hours ∷ d.minutes ∷ d.seconds ∷ [])

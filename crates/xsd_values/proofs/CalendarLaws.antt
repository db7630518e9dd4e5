-- The calendar is one: years and months follow one another without a gap.
use Rattle.std.proofs.Common.{◌≡◌, ◌≤◌, ℕ, suc, ◌+◌, ◌-◌, ◌%◌, Bool, true, false, refl, ap, ◌∙◌, arith, not, ◌&&◌, ◌||◌, ◌==◌, cond}
use Rattle.std.specs.Prelude.{if◌then◌else◌}
use Rattle.std.proofs.lemmas.Bool.{eqb-true, eqb-false}
use Rattle.std.proofs.lemmas.Bool.Decides.{nat_tests}
use Rattle.rng_model.specs.xsd.primitives.Calendar.{year_numbered, is_leap, multiples_below, days_before_year, days_in_month, days_of_months, days_before}

abbrev pub days_in_year : ℕ → ℕ
days_in_year y = if is_leap y then 366 else 365

-- ---- one more multiple of k is below the next number exactly if the number is a multiple

multiples_of_4 : (y : ℕ) (b : Bool) → (y % 4 == 0) ≡ b → multiples_below 4 (y + 1) ≡ multiples_below 4 y + cond b 1 0
multiples_of_4 y true e = omega (arith, eqb-true (y % 4) 0 e)
multiples_of_4 y false e = omega (arith, eqb-false (y % 4) 0 e)

multiples_of_100 : (y : ℕ) (b : Bool) → (y % 100 == 0) ≡ b → multiples_below 100 (y + 1) ≡ multiples_below 100 y + cond b 1 0
multiples_of_100 y true e = omega (arith, eqb-true (y % 100) 0 e)
multiples_of_100 y false e = omega (arith, eqb-false (y % 100) 0 e)

multiples_of_400 : (y : ℕ) (b : Bool) → (y % 400 == 0) ≡ b → multiples_below 400 (y + 1) ≡ multiples_below 400 y + cond b 1 0
multiples_of_400 y true e = omega (arith, eqb-true (y % 400) 0 e)
multiples_of_400 y false e = omega (arith, eqb-false (y % 400) 0 e)

-- ---- the days before a year grow by the days of that year

fewer : (y : ℕ) → multiples_below 100 y ≤ multiples_below 4 y
fewer y = omega arith

year_by : (y : ℕ) (a b c : Bool) → (y % 4 == 0) ≡ a → (y % 100 == 0) ≡ b → (y % 400 == 0) ≡ c
    → days_before_year (y + 1) ≡ days_before_year y + cond (a && (not b || c)) 366 365
year_by y true true true p q r = omega (arith, multiples_of_4 y true p, multiples_of_100 y true q, multiples_of_400 y true r, fewer y)
year_by y true true false p q r = omega (arith, multiples_of_4 y true p, multiples_of_100 y true q, multiples_of_400 y false r, fewer y)
year_by y true false true p q r = omega (arith, eqb-true (y % 400) 0 r, eqb-false (y % 100) 0 q)
year_by y true false false p q r = omega (arith, multiples_of_4 y true p, multiples_of_100 y false q, multiples_of_400 y false r, fewer y)
year_by y false true c p q r = omega (arith, eqb-false (y % 4) 0 p, eqb-true (y % 100) 0 q)
year_by y false false true p q r = omega (arith, eqb-false (y % 4) 0 p, eqb-true (y % 400) 0 r)
year_by y false false false p q r = omega (arith, multiples_of_4 y false p, multiples_of_100 y false q, multiples_of_400 y false r, fewer y)

pub days_of_next_year : (y : ℕ) → days_before_year (y + 1) ≡ days_before_year y + days_in_year y
days_of_next_year y = year_by y (y % 4 == 0) (y % 100 == 0) (y % 400 == 0) refl refl refl

-- ---- the days of the months of a year sum to its days

twelve_by : (leap : Bool) → 0 + 31 + cond leap 29 28 + 31 + 30 + 31 + 30 + 31 + 31 + 30 + 31 + 30 + 31 ≡ cond leap 366 365
twelve_by true = refl
twelve_by false = refl

pub days_of_twelve_months : (y : ℕ) → days_of_months y 12 ≡ days_in_year y
days_of_twelve_months y = twelve_by (is_leap y)

-- ---- each day is the one behind the last one

month_has_days : (y m : ℕ) → 28 ≤ days_in_month y m
month_has_days y m = grind (arith, nat_tests)

one_less : (m : ℕ) → suc m - 1 ≡ m
one_less m = omega arith

last_of_month : (y m d : ℕ) → days_before y (suc m) d ≡ days_before_year y + days_of_months y m + (d - 1)
last_of_month y m d = ap (λ k. days_before_year y + days_of_months y k + (d - 1)) (one_less m)

pub first_of_next_month : (y m : ℕ) → days_before y (suc m) (days_in_month y (suc m)) + 1 ≡ days_before y (suc (suc m)) 1
first_of_next_month y m =
    omega (arith, last_of_month y m (days_in_month y (suc m)), last_of_month y (suc m) 1, month_has_days y (suc m))

pub first_of_next_year : (y : ℕ) → days_before y 12 31 + 1 ≡ days_before (y + 1) 1 1
first_of_next_year y = omega (arith, days_of_next_year y, days_of_twelve_months y)

-- ---- the years that are written: the rule of the calendar for those of our era, and after 400 years all is the same again

abbrev leap_by : ℕ → ℕ → ℕ → Bool
leap_by a b c = (a == 0) && (not (b == 0) || (c == 0))

year_at : (n m : ℕ) → n ≡ 10000000000 + m → is_leap n ≡ is_leap m
year_at n m e =
    let fours : n % 4 ≡ m % 4 = omega (arith, e) in
    let hundreds : n % 100 ≡ m % 100 = omega (arith, e) in
    let all : n % 400 ≡ m % 400 = omega (arith, e) in
    ap (λ x. leap_by x (n % 100) (n % 400)) fours ∙ (ap (λ x. leap_by (m % 4) x (n % 400)) hundreds ∙ ap (λ x. leap_by (m % 4) (m % 100) x) all)

pub leap_years : (n : ℕ) → is_leap (year_numbered false n) ≡ is_leap n
leap_years n = year_at (year_numbered false n) n refl

pub days_of_400_years : (y : ℕ) → days_before_year (y + 400) ≡ days_before_year y + 146097
days_of_400_years y = omega (arith, fewer y)

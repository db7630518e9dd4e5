-- Decimals, floats, moments and durations pass the test exactly if they are the same, and so do their values.
use Rattle.std.proofs.Common.{◌≡◌, ℕ, zero, suc, Bool, true, false, ℤ, pos, negsuc, List, [], ◌∷◌, refl, sym, ap, ap₂, subst, ◌∙◌, ◌==◌, ◌&&◌, rules, Float}
use Rattle.std.specs.Bool.{beq, Decides}
use Rattle.std.specs.Ordering.{int_eq}
use Rattle.std.specs.Float.{nan, inf, fin}
use Rattle.std.proofs.lemmas.Bool.{and_parts, and_from}
use Rattle.std.proofs.lemmas.Bool.Decides.{Decides-eqb, Decides-int_eq}
use Rattle.rng_model.specs.datatypes.Texts.{Value, text, truth, number, numbers, same_value}
use Rattle.rng_model.proofs.Truths.{same_truth}
use Rattle.rng_model.proofs.ValueLaws.{same_value-is, same_value-self}
use Rattle.rng_model.specs.xsd.primitives.Decimals.{Decimal}
use Rattle.rng_model.specs.plain.OneDecimal.{same_decimal}
use Rattle.rng_model.specs.xsd.primitives.Floats.{same_float}
use Rattle.rng_model.specs.xsd.primitives.Zones.{Moment, same_moment}
use Rattle.rng_model.specs.xsd.primitives.Moments.{each_day}
use Rattle.rng_model.specs.xsd.primitives.Durations.{Duration, same_date_part, same_time_part, same_duration}
use Rattle.rng_model.specs.xsd.primitives.Values.{of_truth, of_integer, decimal, float, moment, time, duration}

truth_decides : (a b : Bool) → Decides (beq a b) (a ≡ b)
truth_decides true true = (λ e. refl, λ e. refl)
truth_decides true false = (λ e. sym e, λ e. sym e)
truth_decides false true = (λ e. e, λ e. e)
truth_decides false false = (λ e. refl, λ e. refl)

-- ---- decimals

pub decimal_is : (a b : Decimal) → same_decimal a b ≡ true → a ≡ b
decimal_is a b e =
    let both = and_parts (int_eq a.units b.units) (a.places == b.places) e in
    ap₂ (λ u p. record { units = u; places = p }) ((Decides-int_eq a.units b.units).0 both.0) ((Decides-eqb a.places b.places).0 both.1)

pub decimal_self : (a : Decimal) → same_decimal a a ≡ true
decimal_self a = and_from (int_eq a.units a.units) (a.places == a.places) ((Decides-int_eq a.units a.units).1 refl) ((Decides-eqb a.places a.places).1 refl)

-- ---- floats

finite : (s t : Bool) (m n : ℕ) (e d : ℤ) → (beq s t && ((m == n) && int_eq e d)) ≡ true → fin s m e ≡ fin t n d
finite s t m n e d p =
    let sign = and_parts (beq s t) ((m == n) && int_eq e d) p in
    let rest = and_parts (m == n) (int_eq e d) sign.1 in
    let same_sign : s ≡ t = (truth_decides s t).0 sign.0 in
    let same_m : m ≡ n = (Decides-eqb m n).0 rest.0 in
    let same_e : e ≡ d = (Decides-int_eq e d).0 rest.1 in
    cc

pub float_is : (a b : Float) → same_float a b ≡ true → a ≡ b
float_is nan nan e = refl
float_is nan (inf t) e = search rules
float_is nan (fin t n d) e = search rules
float_is (inf s) nan e = search rules
float_is (inf s) (inf t) e = ap inf ((truth_decides s t).0 e)
float_is (inf s) (fin t n d) e = search rules
float_is (fin s m x) nan e = search rules
float_is (fin s m x) (inf t) e = search rules
float_is (fin s m x) (fin t n d) e = finite s t m n x d e

pub float_self : (a : Float) → same_float a a ≡ true
float_self nan = refl
float_self (inf s) = (truth_decides s s).1 refl
float_self (fin s m e) =
    and_from (beq s s) ((m == m) && int_eq e e) ((truth_decides s s).1 refl)
    (and_from (m == m) (int_eq e e) ((Decides-eqb m m).1 refl) ((Decides-int_eq e e).1 refl))

-- ---- moments

pub moment_is : (a b : Moment) → same_moment a b ≡ true → a ≡ b
moment_is a b e =
    let both = and_parts (beq a.zoned b.zoned) (a.at == b.at) e in
    ap₂ (λ z n. record { zoned = z; at = n }) ((truth_decides a.zoned b.zoned).0 both.0) ((Decides-eqb a.at b.at).0 both.1)

pub moment_self : (a : Moment) → same_moment a a ≡ true
moment_self a = and_from (beq a.zoned a.zoned) (a.at == a.at) ((truth_decides a.zoned a.zoned).1 refl) ((Decides-eqb a.at a.at).1 refl)

-- ---- durations

abbrev Three : Type 0
Three = ℕ × ℕ × ℕ

abbrev triple : ℕ → ℕ → ℕ → Three
triple a b c = (a, b, c)

three : (a b c x y z : ℕ) → ((a == x) && ((b == y) && (c == z))) ≡ true → triple a b c ≡ triple x y z
three a b c x y z e =
    let first = and_parts (a == x) ((b == y) && (c == z)) e in
    let rest = and_parts (b == y) (c == z) first.1 in
    ap₂ (λ u v. triple u v c) ((Decides-eqb a x).0 first.0) ((Decides-eqb b y).0 rest.0) ∙ ap (triple x y) ((Decides-eqb c z).0 rest.1)

three_self : (a b c : ℕ) → ((a == a) && ((b == b) && (c == c))) ≡ true
three_self a b c =
    and_from (a == a) ((b == b) && (c == c)) ((Decides-eqb a a).1 refl) (and_from (b == b) (c == c) ((Decides-eqb b b).1 refl) ((Decides-eqb c c).1 refl))

abbrev made : Bool → Three → Three → Duration
made s d t = record { negative = s; years = d.0; months = d.1; days = d.2; hours = t.0; minutes = t.1; seconds = t.2 }

pub duration_is : (a b : Duration) → same_duration a b ≡ true → a ≡ b
duration_is a b e =
    let parts = and_parts (beq a.negative b.negative) (same_date_part a b && same_time_part a b) e in
    let both = and_parts (same_date_part a b) (same_time_part a b) parts.1 in
    let d = three a.years a.months a.days b.years b.months b.days both.0 in
    let t = three a.hours a.minutes a.seconds b.hours b.minutes b.seconds both.1 in
    ap₂ (made a.negative) d t ∙
    ap (λ s. made s (triple b.years b.months b.days) (triple b.hours b.minutes b.seconds)) ((truth_decides a.negative b.negative).0 parts.0)

pub duration_self : (a : Duration) → same_duration a a ≡ true
duration_self a =
    and_from (beq a.negative a.negative) (same_date_part a a && same_time_part a a) ((truth_decides a.negative a.negative).1 refl)
    (and_from (same_date_part a a) (same_time_part a a) (three_self a.years a.months a.days) (three_self a.hours a.minutes a.seconds))

-- ---- values: a test of the things themselves, and their values, from which each can be had again

module _ {A : Type 0} (value : A → Value) (from : Value → A) (again : (a : A) → from (value a) ≡ a) where
  same_thing : (a b : A) → same_value (value a) (value b) ≡ true → a ≡ b
  same_thing a b e = sym (again a) ∙ (ap from (same_value-is (value a) (value b) e) ∙ again b)

  module _ (same : A → A → Bool) (is : (a b : A) → same a b ≡ true → a ≡ b) (self : (a : A) → same a a ≡ true) where
    same_if : (a b : A) → same_value (value a) (value b) ≡ same a b
    same_if a b =
        same_truth (same_value (value a) (value b)) (same a b)
        (λ e. subst (λ x. same a x ≡ true) (same_thing a b e) (self a))
        (λ e. subst (λ x. same_value (value a) (value x) ≡ true) (is a b e) (same_value-self (value a)))

-- ---- the numbers of a value, and what they were made of

abbrev parts : Value → List ℕ
parts (text s) = []
parts (truth b) = []
parts (number n) = []
parts (numbers ns) = ns

abbrev truth_from : ℕ → Bool
truth_from zero = false
truth_from (suc n) = true

truth_again : (b : Bool) → truth_from (of_truth b) ≡ b
truth_again true = refl
truth_again false = refl

abbrev integer_from : List ℕ → ℤ
integer_from [] = pos 0
integer_from (s ∷ []) = pos 0
integer_from (zero ∷ n ∷ ns) = pos n
integer_from (suc s ∷ n ∷ ns) = negsuc n

integer_again : (n : ℤ) → integer_from (of_integer n) ≡ n
integer_again (pos n) = refl
integer_again (negsuc n) = refl

abbrev decimal_from : List ℕ → Decimal
decimal_from [] = record { units = pos 0; places = 0 }
decimal_from (n ∷ ns) = record { units = integer_from ns; places = n }

pub same_decimal_value : (a b : Decimal) → same_value (decimal a) (decimal b) ≡ same_decimal a b
same_decimal_value =
    same_if decimal (λ v. decimal_from (parts v)) (λ d. ap (λ u. record { units = u; places = d.places }) (integer_again d.units))
    same_decimal decimal_is decimal_self

abbrev float_from : List ℕ → Float
float_from [] = nan
float_from (s ∷ []) = inf (truth_from s)
float_from (s ∷ m ∷ ns) = fin (truth_from s) m (integer_from ns)

float_again : (x : Float) → float_from (parts (float x)) ≡ x
float_again nan = refl
float_again (inf s) = ap inf (truth_again s)
float_again (fin s m e) = ap₂ (λ t d. fin t m d) (truth_again s) (integer_again e)

pub same_float_value : (a b : Float) → same_value (float a) (float b) ≡ same_float a b
same_float_value = same_if float (λ v. float_from (parts v)) float_again same_float float_is float_self

abbrev moment_from : List ℕ → Moment
moment_from [] = record { zoned = false; at = 0 }
moment_from (z ∷ []) = record { zoned = false; at = 0 }
moment_from (z ∷ n ∷ ns) = record { zoned = truth_from z; at = n }

pub same_moment_value : (a b : Moment) → same_value (moment a) (moment b) ≡ same_moment a b
same_moment_value =
    same_if moment (λ v. moment_from (parts v)) (λ m. ap (λ z. record { zoned = z; at = m.at }) (truth_again m.zoned))
    same_moment moment_is moment_self

-- two times have one value if they are the same moment of the day
pub same_time_value : (a b : Moment) → same_value (time a) (time b) ≡ same_moment (each_day a) (each_day b)
same_time_value a b = same_moment_value (each_day a) (each_day b)

abbrev nothing_long : Duration
nothing_long = record { negative = false; years = 0; months = 0; days = 0; hours = 0; minutes = 0; seconds = 0 }

abbrev duration_from : List ℕ → Duration
duration_from (s ∷ y ∷ m ∷ d ∷ h ∷ n ∷ t ∷ ns) =
    record { negative = truth_from s; years = y; months = m; days = d; hours = h; minutes = n; seconds = t }
duration_from _ = nothing_long

duration_again : (d : Duration) → duration_from (parts (duration d)) ≡ d
duration_again d =
    ap (λ s. record { negative = s; years = d.years; months = d.months; days = d.days; hours = d.hours; minutes = d.minutes; seconds = d.seconds })
    (truth_again d.negative)

pub same_duration_value : (a b : Duration) → same_value (duration a) (duration b) ≡ same_duration a b
same_duration_value = same_if duration (λ v. duration_from (parts v)) duration_again same_duration duration_is duration_self

-- ---- two decimals with one value are the same

pub one_decimal : (a b : Decimal) → same_value (decimal a) (decimal b) ≡ true → a ≡ b
one_decimal a b e = decimal_is a b (sym (same_decimal_value a b) ∙ e)
